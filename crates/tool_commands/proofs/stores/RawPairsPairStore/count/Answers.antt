use Rattle.table_held.specs.Table.{held}
use Rattle.tool_commands.proofs.PairTables.{held_length}
use Rattle.tool_commands.proofs.stores.RawPairsPairStore.count.Goals as goal

pub returns : goal.returns
returns g c = λ ps holds. let same = held_length held (λ b. b.value) c.args.self.now ps holds in cc
