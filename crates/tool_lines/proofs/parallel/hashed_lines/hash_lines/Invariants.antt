use Rattle.std.proofs.Common.{◌≡◌, ◌++◌, length, map}
use Rattle.tool_lines.specs.Pieces.{lines_of}
use Rattle.tool_lines.proofs.parallel.hashed_lines.hash_lines.Given as goal

-- the lines so far are in the list, and those of the rest are still to come
abbrev pub invariant-loop-line : goal.invariant-loop-line
invariant-loop-line g l = lines_of l.piece ≡ map (λ line. line.bytes.now) l.lines.items ++ lines_of l.rest

abbrev pub decreases-loop-line : goal.decreases-loop-line
decreases-loop-line g l = length l.rest
