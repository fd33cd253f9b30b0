use Rattle.std.proofs.Common.{◌∙◌}
use Rattle.tool_lines.proofs.Doubling.{odd, even}
use Rattle.tool_lines.proofs.memo.doubled.Goals as goal

pub returns-then-argument-eq1 : goal.returns-then-argument-eq1
returns-then-argument-eq1 c =
    c.sum_of_products.ensures ∙ odd _ _ _ c.requires.two c.requires.low c.requires.high c.if-argument-eq1.true

pub returns : goal.returns
returns c =
    c.sum_of_products-2.ensures ∙ even _ _ _ c.requires.two c.requires.low c.requires.high c.if-argument-eq1.false
