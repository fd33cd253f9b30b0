use Rattle.std.proofs.Common.{◌<◌, ℕ, ◌-◌, ap, subst, ◌∙◌, arith}
use Rattle.table_numbered.specs.Generations.{GenerationView}
use Rattle.shared_set.specs.Walks.{WalkView, IsOver}
use Rattle.shared_set.proofs.Keeping.{at_shown}
use Rattle.shared_set.proofs.Walking.{over}
use Rattle.shared_set.proofs.iter.Iter.next_index.Goals as goal

pub returns-then-left-eq0 : goal.returns-then-left-eq0
returns-then-left-eq0 g c = let i = c.self.invariant in let k = c.self.inside.cursor in let s = c.self.inside.stage.now in
    let of = (at_shown g.L.Law.same g.L.Law.hash_of c.self.inside.set.now.of k.slot k.stages.book k.stages.names k.stages.log k.entries.book k.entries.names k.entries.log s i.shown i.at).1 in
    record {
      comes = subst (λ (v : WalkView g.row.V.Denot). IsOver v) c.self.view_is
          (over c.self.inside.set.now.of c.self.inside.begun.log k.entries.log s.of.of.size c.self.inside.left g.L.Law.same g.L.Law.hash_of i.begun of.2 of.3 c.if-left-eq0.true);
    }

pub returns : goal.returns
returns g c = record {
  comes = (
    ap (λ (m : ℕ). m - c.self.inside.left) (c.buckets-count.ensures.size ∙ ap (λ (v : GenerationView g.row.V.Denot). v.of.size) c.generation.ensures) ∙ ap (λ (v : WalkView g.row.V.Denot). v.next) c.self.view_is,
    subst (λ (v : WalkView g.row.V.Denot). 0 < v.left) c.self.view_is (omega (arith, c.if-left-eq0.false)),
  );
}
