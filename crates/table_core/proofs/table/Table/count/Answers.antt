use Rattle.std.proofs.Common.{refl, ◌∙◌, ap}
use Rattle.table_core.specs.Generations.{Table, count}
use Rattle.table_core.proofs.CodeTable.{table_change}
use Rattle.table_core.proofs.table.Table.count.Goals as goal

pub invariant_of-self : goal.invariant_of-self
invariant_of-self g c = table_change c.self.inside.first c.self.inside.generations.items _ c.self.inside.growing c.self.inside.copied c.self.inside.source.items c.args.walked count
    c.self.invariant (ap (λ (t : Table). t.building) c.self.view_is ∙ c.requires.settled) (λ g. refl) c.count_walked.ensures
