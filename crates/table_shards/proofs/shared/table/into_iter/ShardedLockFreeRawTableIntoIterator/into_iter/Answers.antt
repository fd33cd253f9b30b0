use Rattle.table_shards.proofs.SharedShards.{elements_fit}
use Rattle.std.proofs.Common.{rules, length, ◌∙◌, ap}
use Rattle.table_shards.proofs.SharedShards.{part_below}
use Rattle.table_shards.proofs.shared.table.into_iter.ShardedLockFreeRawTableIntoIterator.into_iter.Goals as goal

pub of_tables-requires : goal.of_tables-requires
of_tables-requires g c = (search rules, ap length c.as_mut_slice.ensures.value ∙ c.self.invariant.1)

pub array_drop-shards-requires : goal.array_drop-shards-requires
array_drop-shards-requires g c = search part_below

pub as_mut_slice-requires : goal.as_mut_slice-requires
as_mut_slice-requires g c = search elements_fit
