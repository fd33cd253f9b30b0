-- Generations that own what they show, alone.
use Rattle.std.specs.Prelude.{◌≡◌, ℕ, ◌<◌, ◌≤◌, List, length, slice_index_or, slice_set}
use Rattle.table_generations.specs.Buckets.{owned_values}
use Rattle.table_generations.specs.Generations.{GenerationView}

module _ {A T : Type 0} (home : ℕ) where
  -- a generation of this home whose size counts the values that it owns
  pub record IsSettled (g : GenerationView A T) : Type 0 where
    pub home_is : g.home ≡ home
    pub counted : g.size ≡ length (owned_values g.contents)

  -- generation i was settled
  pub record SettlesAt (i : ℕ) (old new : List (GenerationView A T)) : Type 0 where
    pub generation : GenerationView A T
    pub set : new ≡ slice_set old i generation
    pub settled : IsSettled generation

  -- the first i generations are settled, and the others are of the home that they were of
  pub record AreSettledBelow (old_home i : ℕ) (gs : List (GenerationView A T)) : Type 0 where
    pub settled : (k : ℕ) (d : GenerationView A T) → k < i → k < length gs → IsSettled (slice_index_or gs k d)
    pub left : (k : ℕ) (d : GenerationView A T) → i ≤ k → k < length gs → (slice_index_or gs k d).home ≡ old_home
