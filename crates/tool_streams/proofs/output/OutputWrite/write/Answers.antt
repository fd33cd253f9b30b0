use Rattle.std.proofs.Common.{rules}
use Rattle.tool_streams.proofs.output.OutputWrite.write.Goals as goal

pub invariant_of-self : goal.invariant_of-self
invariant_of-self g c = search rules
