use Rattle.std.proofs.Common.{arith}
use Rattle.table_core.proofs.CodeRuns.{round_the_end}
use Rattle.table_core.proofs.generation.index_after.Goals as goal

pub returns-else-steps-left : goal.returns-else-steps-left
returns-else-steps-left c = round_the_end c.args.capacity c.args.index c.args.steps c.requires (omega (arith, c.if-steps-left.false))
