use Rattle.std.proofs.Common.{arith}
use Rattle.std.proofs.lemmas.Grind.{common_steps}
use Rattle.tool_commands.proofs.LetterCalls.{no_insert, no_lookup}
use Rattle.tool_commands.proofs.spelling.parse_line.Goals as goal

pub returns-in_err-hash-in-105-clause-bad : goal.returns-in_err-hash-in-105-clause-bad
returns-in_err-hash-in-105-clause-bad c = rw c.from_residual.ensures (no_insert _ (omega arith) (omega arith) c.in_err-hash-in-105.ensures.bad)

pub returns-in_err-hash-in-108-clause-bad : goal.returns-in_err-hash-in-108-clause-bad
returns-in_err-hash-in-108-clause-bad c = rw c.from_residual-in_err-hash-in-108.ensures (no_lookup _ (omega arith) (omega arith) c.in_err-hash-in-108.ensures.bad)

pub returns-in_ok-hash-in-108-clause-spelled : goal.returns-in_ok-hash-in-108-clause-spelled
returns-in_ok-hash-in-108-clause-spelled c = grind (arith, common_steps)
