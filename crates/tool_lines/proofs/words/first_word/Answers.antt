use Rattle.std.proofs.Common.{◌≡◌, ◌<◌, length, arith}
use Rattle.std.proofs.lemmas.Grind.{common_steps}
use Rattle.tool_lines.proofs.Pieces.{first_word_is, no_word_is}
use Rattle.tool_lines.proofs.words.first_word.Goals as goal

pub returns-then-is_empty-clause-none : goal.returns-then-is_empty-clause-none
returns-then-is_empty-clause-none c =
    let none : length c.cut_blanks.result.1.now ≡ 0 = grind (arith, common_steps, c.if-is_empty.ensures) in
    no_word_is c.args.text.now c.cut_blanks.result.0.now c.cut_blanks.result.1.now c.cut_blanks.ensures.parts c.cut_blanks.ensures.blanks none

pub returns-clause-word : goal.returns-clause-word
returns-clause-word c =
    let some : 0 < length c.cut_blanks.result.1.now = grind (arith, common_steps, c.if-is_empty.ensures) in
    first_word_is c.args.text.now c.cut_blanks.result.0.now c.cut_blanks.result.1.now c.cut_word.result.0.now c.cut_word.result.1.now
    c.cut_blanks.ensures.parts c.cut_blanks.ensures.blanks some (c.cut_blanks.ensures.behind some) c.cut_word.ensures.parts c.cut_word.ensures.word c.cut_word.ensures.behind
