use Rattle.std.proofs.Common.{◌≡◌, ◌+◌, ◌++◌, ℕ, List, drop}
use Rattle.std.specs.Io.KnownBytes.{Appends}
use Rattle.tool_lines.specs.Counts.{word_lines}
use Rattle.tool_lines.proofs.word_counts.WordCounts.write_to.Given as goal

-- what is written, and then the lines of the words that are left, are all lines
abbrev pub invariant-loop-before : goal.invariant-loop-before
invariant-loop-before g l = (written : List ℕ) × Appends (g.W.Write.contents l.initial.output) (g.W.Write.contents l.output) written
    × (written ++ word_lines (l.before + 1) (drop l.before l.self.interner) (drop l.before l.self.counts.items) ≡ word_lines 1 l.self.interner l.self.counts.items)
