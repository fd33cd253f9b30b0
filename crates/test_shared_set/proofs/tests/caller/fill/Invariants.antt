use Rattle.std.proofs.Common.{◌≡◌}
use Rattle.test_shared_set.proofs.tests.caller.fill.Given as goal

abbrev pub invariant-loop-value : goal.invariant-loop-value
invariant-loop-value g l = l.handle.of ≡ l.fn.handle.of
