use Rattle.std.proofs.Common.{◌≡◌, ◌++◌, ℕ, List, drop}
use Rattle.std.specs.Io.KnownBytes.{Appends}
use Rattle.tool_lines.specs.Replies.{replies}
use Rattle.tool_lines.proofs.memo_threads.write_replies.Given as goal

-- what is written, and then the lines for the arguments that are left, are all lines
abbrev pub invariant-loop-argument : goal.invariant-loop-argument
invariant-loop-argument g l = (written : List ℕ) × Appends (g.W.Write.contents l.initial.output) (g.W.Write.contents l.output) written
    × (written ++ replies (drop l.argument-index l.arguments) ≡ replies l.arguments)
