use Rattle.std.proofs.Common.{◌≡◌, take, length}
use Rattle.table_held.specs.Table.{entries}
use Rattle.table_shards.specs.Shards.{capped_sum}
use Rattle.table_shards.proofs.sharded.HeldShardedTable.len_alone.Given as goal

-- the entries of the shards so far
abbrev pub invariant-loop-shard : goal.invariant-loop-shard
invariant-loop-shard g l = l.sum ≡ capped_sum (λ t. length (entries t)) (take l.shard-index l.shard-items)
