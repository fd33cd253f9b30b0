use Rattle.table_held.specs.Table.{held}
use Rattle.tool_commands.proofs.PairTables.{appends_numbers}
use Rattle.tool_commands.proofs.stores.RawPairsPairStore.push_numbers.Goals as goal

pub returns : goal.returns
returns g c = rw (← c.self.view_is) (appends_numbers held (λ b. b.value) c.push_seconds.result c.self.inside.table _ _ _ c.iter_alone.ensures.entries c.push_seconds.ensures)
