use Rattle.std.proofs.Common.{◌≡◌, take}
use Rattle.std.specs.Prelude.{sum_by}
use Rattle.table_core.specs.Generations.{Gen}
use Rattle.table_core.proofs.table.capacity_of.Given as goal

abbrev pub invariant-loop-generation : goal.invariant-loop-generation
invariant-loop-generation g l = l.buckets ≡ sum_by (λ (g : Gen). g.capacity) (take l.generation-index l.generations)
