use Rattle.std.proofs.Common.{◌≡◌, ◌++◌, length, map}
use Rattle.tool_lines.specs.Pieces.{words_of}
use Rattle.tool_lines.proofs.parallel.hashed_words.push_words.Given as goal

-- the words so far are in the list, and those of the rest are still to come
abbrev pub invariant-loop-word : goal.invariant-loop-word
invariant-loop-word g l = words_of l.piece ≡ map (λ word. word.text.now) l.words.items ++ words_of l.rest

abbrev pub decreases-loop-word : goal.decreases-loop-word
decreases-loop-word g l = length l.rest
