use Rattle.std.proofs.Common.{rules}
use Rattle.tool_streams.proofs.messages.write_message.Goals as goal

pub returns : goal.returns
returns g c = search rules
