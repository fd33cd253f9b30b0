use Rattle.tool_lines.proofs.memo_shared.Solver.+fibonacci.Given as goal

-- each call is for about half of the argument
abbrev pub decreases-fibonacci : goal.decreases-fibonacci
decreases-fibonacci g l = l.argument
