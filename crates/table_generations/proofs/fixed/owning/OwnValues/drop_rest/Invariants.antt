use Rattle.std.proofs.Common.{◌≡◌, length}
use Rattle.table_generations.proofs.fixed.owning.OwnValues.drop_rest.Given as goal

abbrev pub invariant-loop-value : goal.invariant-loop-value
invariant-loop-value g l = l.self.home ≡ l.closed.id

abbrev pub decreases-loop-value : goal.decreases-loop-value
decreases-loop-value g l = length l.self.values
