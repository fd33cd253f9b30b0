use Rattle.std.proofs.Common.{◌≡◌}
use Rattle.test_shared_set.proofs.tests.caller.place.Given as goal

abbrev pub invariant-loop-tried : goal.invariant-loop-tried
invariant-loop-tried g l = l.handle.of ≡ l.fn.handle.of
