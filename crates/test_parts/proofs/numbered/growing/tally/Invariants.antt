use Rattle.std.proofs.Common.{◌≡◌, length}
use Rattle.test_parts.proofs.numbered.growing.tally.Given as goal

abbrev pub invariant-loop-value : goal.invariant-loop-value
invariant-loop-value l = l.left.of ≡ l.set.of

abbrev pub decreases-loop-value : goal.decreases-loop-value
decreases-loop-value l = length l.left.left
