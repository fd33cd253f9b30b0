use Rattle.seated.specs.Tables.{IsSeatOf}
use Rattle.test_parts.proofs.seats.found_to.Given as goal

abbrev pub invariant-loop-n : goal.invariant-loop-n
invariant-loop-n l = IsSeatOf l.table l.seat
