use Rattle.std.proofs.Common.{◌≡◌, take}
use Rattle.table_held.specs.Table.{capacity}
use Rattle.table_shards.specs.Shards.{capped_sum}
use Rattle.table_shards.proofs.sharded.HeldShardedTable.capacity_alone.Given as goal

-- the buckets of the shards so far
abbrev pub invariant-loop-shard : goal.invariant-loop-shard
invariant-loop-shard g l = l.sum ≡ capped_sum capacity (take l.shard-index l.shard-items)
