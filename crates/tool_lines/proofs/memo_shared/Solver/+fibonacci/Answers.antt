use Rattle.tool_lines.proofs.Doubling.{first_two}
use Rattle.tool_lines.proofs.memo_shared.Solver.+fibonacci.Goals as goal

pub returns-then-argument-lt2-clause-right : goal.returns-then-argument-lt2-clause-right
returns-then-argument-lt2-clause-right g t c = first_two c.args.argument c.if-argument-lt2.true
