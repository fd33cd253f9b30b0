use Rattle.std.proofs.Common.{rules}
use Rattle.table_core.proofs.deciding.probe.Goals as goal

pub returns : goal.returns
returns c = search rules
