use Rattle.std.proofs.Common.{rules}
use Rattle.tool_streams.proofs.messages.end_with.Goals as goal

pub returns : goal.returns
returns g c = search rules
