use Rattle.table_shards.proofs.ShardsApart.{shards_apart}
use Rattle.table_shards.proofs.sharded.alone.HeldShardedTableKeepsApart.entries_are_apart.Goals as goal

pub returns : goal.returns
returns g c = λ law ts lawful. shards_apart g.T.AtomicValue.target g.L.Law.same g.L.Law.hash_of law ts lawful
