use Rattle.std.proofs.Common.{◌≡◌, ℕ, ◌<◌, get_or, true}
use Rattle.std.specs.Char.{is_ascii_whitespace}
use Rattle.tool_lines.proofs.words.cut_blanks.Given as goal

-- every byte so far is blank
abbrev pub invariant-loop-at : goal.invariant-loop-at
invariant-loop-at l = (k d : ℕ) → k < l.at → is_ascii_whitespace (get_or l.text k d) ≡ true
