use Rattle.std.proofs.Common.{◌≡◌, length}
use Rattle.table_numbered.proofs.ending.LeftValues.drop_all.Given as goal

abbrev pub invariant-loop-value : goal.invariant-loop-value
invariant-loop-value g l = l.left.of ≡ l.generation.of

abbrev pub decreases-loop-value : goal.decreases-loop-value
decreases-loop-value g l = length l.left.left
