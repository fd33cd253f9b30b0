use Rattle.std.proofs.Common.{length}
use Rattle.std.specs.List.Sorted.{IsPermutation}
use Rattle.table_shards.specs.ShardWalks.{left_of}
use Rattle.table_shards.proofs.sharded.into_iter.IntoIterIterator.next.Given as goal

-- only shards without values left were passed over
abbrev pub invariant-loop-value : goal.invariant-loop-value
invariant-loop-value g l = IsPermutation l.fn.self (left_of l.self-inside.walk l.self-inside.later)

abbrev pub decreases-loop-value : goal.decreases-loop-value
decreases-loop-value g l = length l.self-inside.later
