use Rattle.table_shards.specs.Shards.{sharded}
use Rattle.tool_commands.proofs.PairTables.{held_length}
use Rattle.tool_commands.proofs.stores.ShardedPairsPairStore.count.Goals as goal

pub returns : goal.returns
returns g c = λ ps holds. let same = held_length sharded (λ b. b.value) c.args.self.now ps holds in cc
