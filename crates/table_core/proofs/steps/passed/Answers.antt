use Rattle.std.proofs.Common.{ap, sym}
use Rattle.table_core.specs.RunningSteps.{passed}
use Rattle.table_core.proofs.steps.passed.Goals as goal

pub returns-then-asked : goal.returns-then-asked
returns-then-asked c = sym (ap passed c.if-asked.true)

pub returns-else-asked : goal.returns-else-asked
returns-else-asked c = sym (ap passed c.if-asked.false)
