use Rattle.std.proofs.Common.{rules}
use Rattle.table_core.proofs.table.Table.check.Goals as goal

pub returns-else-granted-2 : goal.returns-else-granted-2
returns-else-granted-2 g c = search rules
