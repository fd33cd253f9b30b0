use Rattle.std.proofs.Common.{◌≡◌, ◌<◌}
use Rattle.tool_commands.specs.Stress.{entries_of}
use Rattle.tool_commands.proofs.stress.run_jobs.Given as goal

abbrev pub invariant-loop-number : goal.invariant-loop-number
invariant-loop-number g l = 0 < l.number → l.entries ≡ entries_of l.kind l.crew.threads
