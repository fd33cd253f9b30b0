use Rattle.std.proofs.Common.{rules}
use Rattle.tool_commands.proofs.Spaces.{pair_parts}
use Rattle.tool_commands.proofs.spelling.parse_pair.Goals as goal

pub returns-in_err-first-clause-bad : goal.returns-in_err-first-clause-bad
returns-in_err-first-clause-bad c =
    rw c.from_residual-in_err-first.ensures
    (λ first second p. c.in_err-first.ensures.bad first (pair_parts _ _ _ first second c.in_ok-before.ensures.parts c.in_ok-before.ensures.first p).0)

pub returns-in_err-second-clause-bad : goal.returns-in_err-second-clause-bad
returns-in_err-second-clause-bad c =
    rw c.from_residual-in_err-second.ensures
    (λ first second p. c.in_err-second.ensures.bad second (pair_parts _ _ _ first second c.in_ok-before.ensures.parts c.in_ok-before.ensures.first p).1)

pub returns-clause-spelled : goal.returns-clause-spelled
returns-clause-spelled c = search rules
