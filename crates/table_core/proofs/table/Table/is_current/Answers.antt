use Rattle.std.proofs.Common.{rules}
use Rattle.table_core.proofs.table.Table.is_current.Goals as goal

pub returns-in-None : goal.returns-in-None
returns-in-None g c = search rules
