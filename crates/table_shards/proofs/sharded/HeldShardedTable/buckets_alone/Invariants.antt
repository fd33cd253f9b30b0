use Rattle.std.proofs.Common.{◌≡◌, ℕ, ◌<◌, take}
use Rattle.table_held.specs.Table.{all_buckets}
use Rattle.table_shards.specs.Shards.{capped_sum, HasFewBuckets, shard_at}
use Rattle.table_shards.proofs.sharded.HeldShardedTable.buckets_alone.Given as goal

-- the buckets of the shards so far
abbrev pub invariant-loop-shard : goal.invariant-loop-shard
invariant-loop-shard g l = (l.sum ≡ capped_sum all_buckets (take l.shard-index l.shard-items)) × ((k : ℕ) → k < l.shard-index → HasFewBuckets (shard_at l.shard-items k))
