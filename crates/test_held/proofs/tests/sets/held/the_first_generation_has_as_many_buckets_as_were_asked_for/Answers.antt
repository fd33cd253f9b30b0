use Rattle.std.proofs.Common.{refl, arith}
use Rattle.test_held.proofs.tests.sets.held.the_first_generation_has_as_many_buckets_as_were_asked_for.Goals as goal

pub with_first_capacity-requires : goal.with_first_capacity-requires
with_first_capacity-requires g c = ((6, refl), omega arith, omega arith)

pub with_first_capacity-requires-2 : goal.with_first_capacity-requires-2
with_first_capacity-requires-2 g c = ((12, refl), omega arith, omega arith)
