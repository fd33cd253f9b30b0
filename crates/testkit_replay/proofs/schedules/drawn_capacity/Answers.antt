use Rattle.std.proofs.Common.{arith}
use Rattle.testkit_replay.proofs.schedules.drawn_capacity.Goals as goal

-- 16 is two to the fourth
pub returns : goal.returns
returns c = ((4, λ i. 16), omega arith, omega arith)
