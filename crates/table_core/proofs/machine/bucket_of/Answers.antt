use Rattle.std.proofs.Common.{rules}
use Rattle.table_core.proofs.machine.bucket_of.Goals as goal

pub returns : goal.returns
returns g c = search rules
