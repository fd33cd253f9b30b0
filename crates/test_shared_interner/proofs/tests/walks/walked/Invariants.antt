use Rattle.std.proofs.Common.{◌≡◌}
use Rattle.test_shared_interner.proofs.tests.walks.walked.Given as goal

abbrev pub invariant-loop-text : goal.invariant-loop-text
invariant-loop-text g l = l.names.of ≡ l.interner.of

abbrev pub invariant-loop-symbol : goal.invariant-loop-symbol
invariant-loop-symbol g l = l.walk.of ≡ l.interner.of

abbrev pub decreases-loop-symbol : goal.decreases-loop-symbol
decreases-loop-symbol g l = l.walk.left
