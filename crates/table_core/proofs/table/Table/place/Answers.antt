use Rattle.std.proofs.Common.{refl, ◌∙◌, ap}
use Rattle.table_core.specs.Generations.{Table, fill}
use Rattle.table_core.proofs.CodeTable.{table_change}
use Rattle.table_core.proofs.table.Table.place.Goals as goal

pub invariant_of-self-2 : goal.invariant_of-self-2
invariant_of-self-2 g c = table_change c.self.inside.first c.self.inside.generations.items _ c.self.inside.growing c.self.inside.copied c.self.inside.source.items c.args.walked (λ g. fill g c.args.entry)
    c.self.invariant (ap (λ (t : Table). t.building) c.self.view_is ∙ c.requires.settled) (λ g. refl) c.in_ok-fill_walked.ensures.ok
