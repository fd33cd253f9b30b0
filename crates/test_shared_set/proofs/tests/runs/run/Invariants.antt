use Rattle.std.proofs.Common.{◌≡◌}
use Rattle.test_shared_set.proofs.tests.runs.run.Given as goal

abbrev pub invariant-loop-call : goal.invariant-loop-call
invariant-loop-call g l = l.one.of ≡ l.other.of
