use Rattle.seated.specs.Tables.{IsSeatOf}
use Rattle.tool_commands.proofs.seats.fn.start_workers.scope.Given as goal

abbrev pub invariant-loop-worker : goal.invariant-loop-worker
invariant-loop-worker _ l = IsSeatOf l.table l.last
