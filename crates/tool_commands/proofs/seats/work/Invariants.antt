use Rattle.std.proofs.Common.{◌≡◌, ◌+◌, ◌≤◌, length}
use Rattle.seated.specs.Tables.{IsSeatOf}
use Rattle.seated.specs.Numbers.{own_numbers}
use Rattle.tool_commands.proofs.seats.work.Given as goal

abbrev pub invariant-loop-call : goal.invariant-loop-call
invariant-loop-call _ l = IsSeatOf l.table l.seat × (length (own_numbers l.seat) ≡ length (own_numbers l.initial.seat) + l.tally.placed) × (l.tally.placed + l.tally.full ≤ l.call)
