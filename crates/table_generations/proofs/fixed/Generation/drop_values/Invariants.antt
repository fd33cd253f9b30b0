use Rattle.std.proofs.Common.{◌≡◌, length}
use Rattle.table_generations.proofs.fixed.Generation.drop_values.Given as goal

abbrev pub invariant-loop-bucket : goal.invariant-loop-bucket
invariant-loop-bucket g l = (l.buckets.home ≡ l.closed.id) × (l.buckets.from ≡ l.alloc)

abbrev pub decreases-loop-bucket : goal.decreases-loop-bucket
decreases-loop-bucket g l = length l.buckets.contents
