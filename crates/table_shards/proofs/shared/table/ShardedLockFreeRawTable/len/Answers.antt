use Rattle.table_shards.proofs.SharedShards.{elements_fit}
use Rattle.table_shards.proofs.shared.table.ShardedLockFreeRawTable.len.Goals as goal

pub as_slice-shards-requires : goal.as_slice-shards-requires
as_slice-shards-requires g c = search elements_fit
