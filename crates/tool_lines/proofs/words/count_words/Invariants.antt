use Rattle.std.proofs.Common.{◌≡◌, ◌++◌, ℕ, List, length}
use Rattle.tool_lines.specs.Pieces.{words_of}
use Rattle.tool_lines.specs.Counts.{Counts}
use Rattle.tool_lines.proofs.words.count_words.Given as goal

-- the words so far are counted, and those of the rest are still to come
abbrev pub invariant-loop-word : goal.invariant-loop-word
invariant-loop-word g l = (done : List (List ℕ)) × (words_of l.line ≡ done ++ words_of l.rest)
    × ((before : List (List ℕ)) → Counts before l.initial.words.interner l.initial.words.counts.items → Counts (before ++ done) l.words.interner l.words.counts.items)

abbrev pub decreases-loop-word : goal.decreases-loop-word
decreases-loop-word g l = length l.rest
