use Rattle.std.proofs.Common.{◌≡◌, ◌+◌, ◌*◌, ◌≤◌, length}
use Rattle.seated.specs.Tables.{IsSeatOf}
use Rattle.seated.specs.Numbers.{own_numbers}
use Rattle.testkit_checks.proofs.measures.seats.insert_same.Given as goal

abbrev pub invariant-loop-round : goal.invariant-loop-round
invariant-loop-round l = IsSeatOf l.table l.seat × (length (own_numbers l.seat) ≡ length (own_numbers l.initial.seat) + l.placed) × (l.placed ≤ 10000 * l._round)
