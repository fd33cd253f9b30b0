use Rattle.std.proofs.Common.{◌≡◌}
use Rattle.test_shared_set.proofs.tests.walks.walked.Given as goal

abbrev pub invariant-loop-next : goal.invariant-loop-next
invariant-loop-next g l = l.walk.of ≡ l.set.of

abbrev pub decreases-loop-next : goal.decreases-loop-next
decreases-loop-next g l = l.walk.left
