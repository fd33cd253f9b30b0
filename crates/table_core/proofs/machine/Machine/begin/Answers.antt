use Rattle.std.proofs.Common.{rules}
use Rattle.table_core.proofs.machine.Machine.begin.Goals as goal

pub returns-then-may_not_begin-clause-asks : goal.returns-then-may_not_begin-clause-asks
returns-then-may_not_begin-clause-asks g c = search rules
