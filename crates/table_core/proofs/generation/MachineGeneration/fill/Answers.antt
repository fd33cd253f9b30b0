use Rattle.std.proofs.Common.{◌∙◌, ap, ◌≡◌, None, map, length, arith}
use Rattle.std.proofs.lemmas.List.{length-map}
use Rattle.table_core.specs.Generations.{Gen, bucket, fill}
use Rattle.table_core.specs.Bound.{entry_of}
use Rattle.table_core.proofs.CodeEntries.{insert_put}
use Rattle.table_core.proofs.CodeRuns.{runs_put, runs_grown}
use Rattle.table_core.proofs.Contents.{put_stays}
use Rattle.table_core.proofs.Sizes.{length-put_in}
use Rattle.table_core.proofs.generation.MachineGeneration.fill.Goals as goal

pub returns-clause-ok : goal.returns-clause-ok
returns-clause-ok g c =
    let free : bucket (map entry_of c.self.inside.slots.entries) c.args.entry.index ≡ None = ap (λ (g : Gen). bucket g.entries c.args.entry.index) c.self.view_is ∙ c.requires in
    ap (λ es. record { capacity = c.self.inside.capacity; size = c.self.inside.size; entries = es }) (ap (map entry_of) c.in_ok-insert.ensures.entries ∙ insert_put c.args.entry.index _ c.self.inside.slots.entries free) ∙
    ap (λ (g : Gen). fill g c.args.entry) c.self.view_is

pub invariant_of-self-2 : goal.invariant_of-self-2
invariant_of-self-2 g c =
    let es = map entry_of c.self.inside.slots.entries in
    let free : bucket es c.args.entry.index ≡ None = ap (λ (g : Gen). bucket g.entries c.args.entry.index) c.self.view_is ∙ c.requires in
    let put = ap (map entry_of) c.in_ok-insert.ensures.entries ∙ insert_put c.args.entry.index _ c.self.inside.slots.entries free in
    let more = length-put_in c.args.entry es in
    let now = length-map c.insert.new.self.entries entry_of in
    let was = length-map c.self.inside.slots.entries entry_of in
    let longer = ap length put in
    let size = c.self.invariant.1 in (
      c.self.invariant.0,
      omega arith,
      rw put (rw c.in_ok-insert.ensures.entries (runs_put c.self.inside.capacity c.args.entry.index _ _ _
          (omega arith, omega arith, λ j least lt. absurd (omega arith))
          (runs_grown c.self.inside.capacity es _ c.self.inside.slots.entries (omega arith) (λ i s. (s.0, put_stays c.args.entry s.0 es i free s.1)) c.self.invariant.2))),
    )
