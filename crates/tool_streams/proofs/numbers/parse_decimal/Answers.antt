use Rattle.std.proofs.Common.{rules}
use Rattle.tool_streams.proofs.numbers.parse_decimal.Goals as goal

pub returns-clause-written : goal.returns-clause-written
returns-clause-written c = search rules
