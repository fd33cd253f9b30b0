use Rattle.std.proofs.Common.{◌≡◌, arith}
use Rattle.test_shards.proofs.tests.held.makers.sixteen_shards.Goals as goal

pub new-requires : goal.new-requires
new-requires g c = (omega arith, (4, λ i. 16))
