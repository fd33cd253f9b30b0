-- What a table gives when it is taken apart.
use Rattle.std.specs.Prelude.{◌≡◌, ℕ, ◌++◌, All, List, length, map}
use Rattle.std.specs.List.{flat_map}
use Rattle.std.specs.declared.boxed.Box.{Box}
use Rattle.table_generations.specs.Buckets.{owned_values}
use Rattle.table_generations.specs.Generations.{GenerationView, OwnValuesView}

module _ {A T : Type 0} where
  -- the values that the buckets of these generations own
  abbrev pub all_owned : List (GenerationView A T) → List T
  all_owned gs = flat_map (λ g. owned_values g.contents) gs

  -- the values that are left where those of one generation are being taken out, and then those of
  -- others
  abbrev pub all_left : OwnValuesView T → List (GenerationView A T) → List T
  all_left first gs = first.values ++ all_owned gs

  -- generations one by one, and then those that lie in blocks
  abbrev pub with_later : List (GenerationView A T) → List (Box (GenerationView A T) A) → List (GenerationView A T)
  with_later gs blocks = gs ++ map (λ b. b.value) blocks

  -- values that are taken out of generations of one home, and are counted
  pub record AreCounted (home : ℕ) (first : OwnValuesView T) (gs : List (GenerationView A T)) (left : ℕ) : Type 0 where
    pub first_is : first.home ≡ home
    pub others : All (λ g. g.home ≡ home) gs
    pub counted : left ≡ length (all_left first gs)
