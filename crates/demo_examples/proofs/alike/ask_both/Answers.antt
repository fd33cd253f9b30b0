use Rattle.std.proofs.Common.{arith}
use Rattle.demo_examples.proofs.alike.ask_both.Goals as goal

-- four is a power of two
pub new-shards-requires : goal.new-shards-requires
new-shards-requires c = (omega arith, (2, λ i. 4))
