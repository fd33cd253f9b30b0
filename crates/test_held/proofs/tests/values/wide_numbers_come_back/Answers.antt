use Rattle.std.proofs.Common.{refl, arith}
use Rattle.test_held.proofs.tests.values.wide_numbers_come_back.Goals as goal

-- 64 is 2^6
pub with_first_capacity-table-requires : goal.with_first_capacity-table-requires
with_first_capacity-table-requires g c = ((6, refl), omega arith, omega arith)
