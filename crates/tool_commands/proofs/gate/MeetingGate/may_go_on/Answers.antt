use Rattle.std.proofs.Common.{rules}
use Rattle.tool_commands.proofs.gate.MeetingGate.may_go_on.Goals as goal

pub returns-in-1 : goal.returns-in-1
returns-in-1 c = search rules
