use Rattle.std.proofs.Common.{rules}
use Rattle.table_core.proofs.event.Event.call.Goals as goal

pub returns-in-Insert-2-clause-number : goal.returns-in-Insert-2-clause-number
returns-in-Insert-2-clause-number c = search rules
