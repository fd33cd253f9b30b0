use Rattle.std.proofs.Common.{◌++◌, ◌∷◌, []}
use Rattle.tool_lines.proofs.Pieces.{one_word_more}
use Rattle.tool_lines.proofs.Counts.{more_counted}
use Rattle.tool_lines.proofs.words.count_words.Goals as goal

pub loop-word-preserved : goal.loop-word-preserved
loop-word-preserved g c = (
  c.loop-word.invariant.0 ++ c.in-Some.word.now ∷ [],
  one_word_more c.args.line.now c.loop-word.rest.now c.in-Some.behind.now c.in-Some.word.now c.loop-word.invariant.0 c.loop-word.invariant.1 c.in-Some.ensures.word,
  λ before is. more_counted before c.loop-word.invariant.0 _ _ c.in-Some.word.now c.in-Ok.word.now c.in-Ok.ensures.cases.0 (c.in_ok-count-in-Ok.ensures.counts (before ++ c.loop-word.invariant.0) (c.loop-word.invariant.2 before is)),
)
