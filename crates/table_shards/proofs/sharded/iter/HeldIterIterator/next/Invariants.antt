use Rattle.std.proofs.Common.{◌≡◌, length}
use Rattle.table_shards.specs.ShardWalks.{left_of}
use Rattle.table_shards.proofs.sharded.iter.HeldIterIterator.next.Given as goal

-- only shards without entries left were passed over
abbrev pub invariant-loop-target : goal.invariant-loop-target
invariant-loop-target g l = left_of l.self-inside.walk l.self-inside.later.now ≡ l.fn.self

abbrev pub decreases-loop-target : goal.decreases-loop-target
decreases-loop-target g l = length l.self-inside.later.now
