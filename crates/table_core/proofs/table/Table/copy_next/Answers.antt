use Rattle.std.proofs.Common.{◌≡◌, ◌∙◌, ap, sym, Some, arith}
use Rattle.table_core.specs.Generations.{Table, next_copied}
use Rattle.table_core.specs.Bound.{build_of}
use Rattle.table_core.proofs.CodeTable.{next_within}
use Rattle.table_core.proofs.table.Table.copy_next.Goals as goal

pub copy-requires : goal.copy-requires
copy-requires g c = c.requires (record { gen = c.in-Some-growing.growing; copied = c.self.inside.copied })
    (ap (λ (t : Table). t.building) (sym c.self.view_is) ∙ ap (λ o. build_of o c.self.inside.copied) c.in-Some-growing.is)

pub overflow_add-self : goal.overflow_add-self
overflow_add-self g c =
    let n : next_copied (record { first = c.self.inside.first; gens = c.self.inside.generations.items; building = build_of c.self.inside.growing c.self.inside.copied }) ≡ Some c.in-Some.entry = ap next_copied c.self.view_is ∙ sym c.in-Some.ensures in
    let lt = next_within c.self.inside.first c.self.inside.generations.items c.self.inside.growing c.self.inside.source.items c.self.inside.copied c.in-Some.entry c.in-Some-growing.growing c.self.invariant c.in-Some-growing.is n in
    let small = c.self.inside.source.small in
    omega arith
