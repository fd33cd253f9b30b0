use Rattle.std.proofs.Common.{length}
use Rattle.table_shards.proofs.SharedShards.{HasPassed}
use Rattle.table_shards.proofs.shared.table.iter.IterIterator.next.Given as goal

-- only shards whose walk ended were passed
abbrev pub invariant-loop-target : goal.invariant-loop-target
invariant-loop-target g l = HasPassed l.fn.self l.self-inside.ahead.now l.self-inside.walk

abbrev pub decreases-loop-target : goal.decreases-loop-target
decreases-loop-target g l = length l.self-inside.ahead.now
