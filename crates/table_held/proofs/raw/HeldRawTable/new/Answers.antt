use Rattle.std.proofs.Common.{refl, arith}
use Rattle.table_held.proofs.raw.HeldRawTable.new.Goals as goal

pub with_first_capacity-requires : goal.with_first_capacity-requires
with_first_capacity-requires g c = ((4, refl), omega arith, omega arith)
