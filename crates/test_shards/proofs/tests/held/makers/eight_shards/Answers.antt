use Rattle.std.proofs.Common.{◌≡◌, arith}
use Rattle.test_shards.proofs.tests.held.makers.eight_shards.Goals as goal

pub new-requires : goal.new-requires
new-requires g c = (omega arith, (3, λ i. 8))
