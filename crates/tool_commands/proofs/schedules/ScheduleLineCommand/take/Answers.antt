use Rattle.std.proofs.Common.{rules}
use Rattle.tool_commands.proofs.schedules.ScheduleLineCommand.take.Goals as goal

pub returns-in-Ok-Some-clause-printed : goal.returns-in-Ok-Some-clause-printed
returns-in-Ok-Some-clause-printed g c = search rules
