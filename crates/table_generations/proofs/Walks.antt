-- Steps of a walk over the values that generations own.
use Rattle.std.proofs.Common.{◌≡◌, List, [], ◌∷◌, refl}
use Rattle.table_generations.specs.Buckets.{owned_values}
use Rattle.table_generations.specs.Generations.{GenerationView, OwnValuesView}
use Rattle.table_generations.specs.Values.{all_left}

module _ {A T : Type 0} where
  -- where the values of one generation are out, those of the next one are taken
  pub next_left : (first next : OwnValuesView T) (x : GenerationView A T) (gs rest : List (GenerationView A T)) → first.values ≡ [] → next.values ≡ owned_values x.contents → gs ≡ x ∷ rest → all_left next rest ≡ all_left first gs
  next_left first next x gs rest out is split = rw (out, is, split) refl
