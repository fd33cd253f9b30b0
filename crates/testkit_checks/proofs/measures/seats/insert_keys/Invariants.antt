use Rattle.std.proofs.Common.{◌≡◌, ◌+◌, ◌≤◌, length}
use Rattle.seated.specs.Tables.{IsSeatOf}
use Rattle.seated.specs.Numbers.{own_numbers}
use Rattle.testkit_checks.proofs.measures.seats.insert_keys.Given as goal

abbrev pub invariant-loop-index : goal.invariant-loop-index
invariant-loop-index g l = IsSeatOf l.table l.seat × (length (own_numbers l.seat) ≡ length (own_numbers l.initial.seat) + l.placed) × (l.from + l.placed ≤ l.index)
