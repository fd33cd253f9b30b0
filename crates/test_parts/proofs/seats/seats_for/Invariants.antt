use Rattle.std.specs.Prelude.{All}
use Rattle.seated.specs.Tables.{IsSeatOf}
use Rattle.test_parts.proofs.seats.seats_for.Given as goal

abbrev pub invariant-loop-made : goal.invariant-loop-made
invariant-loop-made l = All (IsSeatOf l.table) l.seats.items × IsSeatOf l.table l.last
