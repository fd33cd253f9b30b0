use Rattle.table_terms.proofs.FirstCapacities.{sixteen_is_first}
use Rattle.table_shared.proofs.table.LockFreeRawTable.new.Goals as goal

pub with_first_capacity-requires : goal.with_first_capacity-requires
with_first_capacity-requires g c = sixteen_is_first
