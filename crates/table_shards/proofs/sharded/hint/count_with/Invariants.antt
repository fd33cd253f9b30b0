use Rattle.std.proofs.Common.{◌≡◌, ◌+◌, take, length}
use Rattle.std.specs.List.{flat_map}
use Rattle.table_held.specs.Table.{entries}
use Rattle.table_shards.proofs.sharded.hint.count_with.Given as goal

-- the entries of the shards so far
abbrev pub invariant-loop-shard : goal.invariant-loop-shard
invariant-loop-shard g l = l.count ≡ l.entries_before + length (flat_map entries (take l.shard-index l.shards))
