use Rattle.std.proofs.Common.{rules}
use Rattle.table_core.proofs.deciding.after_insert_size.Goals as goal

pub returns-then-size-state : goal.returns-then-size-state
returns-then-size-state c = search rules
