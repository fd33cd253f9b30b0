use Rattle.std.proofs.Common.{◌≡◌, ◌∙◌, Ok, ap, length, arith}
use Rattle.std.proofs.lemmas.List.{length-map}
use Rattle.std.specs.Fn.{FnReturnsAtPair}
use Rattle.table_held.specs.Table.{contents_in}
use Rattle.table_held.proofs.Tries.{has_bucket, kept_inserted, tried_ok, tried_err}
use Rattle.table_held.proofs.raw.HeldRawTable.try_place.Goals.{in-Ok, in-Err}
use Rattle.table_held.proofs.raw.HeldRawTable.try_place.Goals as goal

pub invariant_of-self : goal.invariant_of-self
invariant_of-self g c = (
  kept_inserted g.T.AtomicValue.target (FnReturnsAtPair g.E.Fn c.args.eq.now (g.T.AtomicValue.target c.args.value)) c.self.inside.first_capacity (contents_in c.self.inside.earlier.items) c.self.inside.current.contents c.self.inside.current.size c.self.invariant.0
      (has_bucket c.self.inside.current.contents (rw (← c.self.view_is) at c.requires.some)) c.args.hash c.args.value c.insert.result c.insert.new.self.contents c.insert.new.self.size c.insert.ensures.inserts c.insert.ensures.size,
  (c.self.invariant.1.0, c.insert.ensures.home.0 ∙ c.self.invariant.1.1),
)

pub returns : goal.returns
returns g c = elim c.match-insert.branch [
  | in-Ok w ↦
      let long : w.len-generation.result ≡ length (contents_in c.self.inside.earlier.items) = (let same : length (contents_in c.self.inside.earlier.items) ≡ length c.self.inside.earlier.items = length-map _ _ in omega arith) in
      rw (w.result-is ∙ ap (λ n. Ok (record { generation = n; index = w.in-Ok.index }, w.in-Ok.back)) long) (tried_ok g.T.AtomicValue.target (FnReturnsAtPair g.E.Fn c.args.eq.now (g.T.AtomicValue.target c.args.value)) c.self.inside.first_capacity (contents_in c.self.inside.earlier.items) c.self.inside.current.contents c.self.inside.current.size c.self.invariant.0
      (has_bucket c.self.inside.current.contents (rw (← c.self.view_is) at c.requires.some)) c.args.hash c.args.value c.args.self.now c.self.view_is w.in-Ok.index w.in-Ok.back c.insert.new.self.contents c.insert.new.self.size w.in-Ok.ensures.inserts w.in-Ok.ensures.size)
  | in-Err w ↦
      rw w.result-is (tried_err g.T.AtomicValue.target (FnReturnsAtPair g.E.Fn c.args.eq.now (g.T.AtomicValue.target c.args.value)) c.self.inside.first_capacity (contents_in c.self.inside.earlier.items) c.self.inside.current.contents c.self.inside.current.size c.self.invariant.0
      (has_bucket c.self.inside.current.contents (rw (← c.self.view_is) at c.requires.some)) c.args.hash c.args.value c.args.self.now c.self.view_is w.in-Err.refusal c.insert.new.self.contents c.insert.new.self.size w.in-Err.ensures.inserts w.in-Err.ensures.size)
]
