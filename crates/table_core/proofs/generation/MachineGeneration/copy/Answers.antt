use Rattle.std.proofs.Common.{◌≤◌, ◌<◌, sym, length, arith, subst}
use Rattle.table_core.specs.Generations.{Gen}
use Rattle.table_core.specs.Bound.{entry_of}
use Rattle.std.proofs.lemmas.List.{length-map}
use Rattle.table_core.proofs.CodeEntries.{fill_counts}
use Rattle.table_core.proofs.generation.MachineGeneration.copy.Goals as goal

pub count-requires : goal.count-requires
count-requires g c =
    let P : Gen → Type 0 = λ g. g.size ≤ length g.entries in
    let counted : c.args.self.now.size ≤ length c.args.self.now.entries = subst P c.self.view_is (omega (arith, length-map c.self.inside.slots.entries entry_of, c.self.invariant.1)) in
    let Q : Gen → Type 0 = λ g. g.size < length g.entries in
    subst Q (sym c.in_ok-fill.ensures.ok) (fill_counts c.first_empty-index.new.self _ (subst P (sym c.first_empty-index.ensures.same) counted))
