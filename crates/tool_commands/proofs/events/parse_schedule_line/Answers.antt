use Rattle.std.proofs.Common.{rules}
use Rattle.tool_commands.proofs.events.parse_schedule_line.Goals as goal

pub returns-in-b-clause-bad : goal.returns-in-b-clause-bad
returns-in-b-clause-bad c = search rules
