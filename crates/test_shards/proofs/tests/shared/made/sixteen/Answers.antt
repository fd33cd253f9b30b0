use Rattle.std.proofs.Common.{◌≡◌, arith}
use Rattle.test_shards.proofs.tests.shared.made.sixteen.Goals as goal

pub new-requires : goal.new-requires
new-requires c = (omega arith, (4, λ i. 16))
