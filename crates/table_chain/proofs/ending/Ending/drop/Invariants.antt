use Rattle.std.proofs.Common.{◌-◌}
use Rattle.table_chain.proofs.ending.Ending.drop.Given as goal

abbrev pub decreases-loop-value : goal.decreases-loop-value
decreases-loop-value g l = l.self.count - l.self.taken
