use Rattle.std.proofs.Common.{◌≡◌, length}
use Rattle.table_generations.specs.Generations.{own_values_of}
use Rattle.table_generations.proofs.fixed.owning.OwnValues.next_value.Given as goal

-- only buckets that own nothing were passed over
abbrev pub invariant-loop-bucket : goal.invariant-loop-bucket
invariant-loop-bucket g l = (own_values_of l.self-inside.buckets ≡ l.fn.self) × (l.self-inside.buckets.from ≡ l.alloc)

abbrev pub decreases-loop-bucket : goal.decreases-loop-bucket
decreases-loop-bucket g l = length l.self-inside.buckets.contents
