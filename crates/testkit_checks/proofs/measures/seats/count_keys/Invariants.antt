use Rattle.seated.specs.Tables.{IsSeatOf}
use Rattle.testkit_checks.proofs.measures.seats.count_keys.Given as goal

abbrev pub invariant-loop-index : goal.invariant-loop-index
invariant-loop-index g l = IsSeatOf l.table l.seat
