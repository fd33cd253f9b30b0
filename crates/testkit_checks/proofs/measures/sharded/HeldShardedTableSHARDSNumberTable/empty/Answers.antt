use Rattle.std.proofs.Common.{arith}
use Rattle.testkit_checks.proofs.measures.sharded.HeldShardedTableSHARDSNumberTable.empty.Goals as goal

-- sixteen is a power of two
pub new-requires : goal.new-requires
new-requires g c = (omega arith, (4, λ i. 16))
