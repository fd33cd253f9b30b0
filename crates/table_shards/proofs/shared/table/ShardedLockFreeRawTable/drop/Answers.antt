use Rattle.table_shards.proofs.SharedShards.{elements_fit}
use Rattle.table_shards.proofs.shared.table.ShardedLockFreeRawTable.drop.Goals as goal

pub drop-requires-room-T-Destruct : goal.drop-requires-room-T-Destruct
drop-requires-room-T-Destruct g c κs within = search elements_fit
