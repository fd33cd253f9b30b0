use Rattle.std.proofs.Common.{◌≡◌, arith}
use Rattle.test_shards.proofs.tests.shared.made.eight_of.Goals as goal

pub with_first_capacity-requires : goal.with_first_capacity-requires
with_first_capacity-requires c = (omega arith, ((3, λ i. 8), c.requires))
