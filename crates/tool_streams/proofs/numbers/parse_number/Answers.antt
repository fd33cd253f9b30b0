use Rattle.std.proofs.Common.{arith}
use Rattle.std.proofs.lemmas.Grind.{common_steps}
use Rattle.tool_streams.proofs.numbers.parse_number.Goals as goal

pub returns-in-48-clause-spelled : goal.returns-in-48-clause-spelled
returns-in-48-clause-spelled c = grind (arith, common_steps)
