use Rattle.seated.specs.Tables.{IsSeatOf}
use Rattle.test_parts.proofs.seats.insert_to.Given as goal

abbrev pub invariant-loop-n : goal.invariant-loop-n
invariant-loop-n _ l = IsSeatOf l.table l.seat
