use Rattle.tool_lines.proofs.Doubling.{first_two}
use Rattle.tool_lines.proofs.memo.Memo.+fibonacci.Goals as goal

pub returns-then-argument-lt2-clause-right : goal.returns-then-argument-lt2-clause-right
returns-then-argument-lt2-clause-right g t c = first_two c.args.argument c.if-argument-lt2.true

pub returns-clause-stays : goal.returns-clause-stays
returns-clause-stays g t c argument kept =
    c.keep.ensures.stays argument (c.fibonacci-2.ensures.stays argument (c.fibonacci.ensures.stays argument kept))
