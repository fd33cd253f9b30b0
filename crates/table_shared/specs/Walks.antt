-- What a walk over a shared table meets.
use Rattle.std.specs.Prelude.{◌≡◌, ◌⊎◌, ℕ, ◌-◌, ◌<◌, ◌≤◌, List, [], ◌∷◌, Option, Some, None, length, drop}
use Rattle.std.specs.Borrow.{Bor}
use Rattle.table_generations.specs.Buckets.{Content, shown_entries, values_of}
use Rattle.table_generations.specs.Generations.{GenerationView}

-- a walk: how many buckets are left, and the values of the entries that they were set to alone, in their
-- order
pub record WalkView (T : Type 0) : Type 0 where
  pub left : ℕ
  pub alone : List T

module _ {T : Type 0} where
  -- the values of the entries that the last so many buckets show that were set alone
  abbrev pub last_shown : List (Content T) → ℕ → List T
  last_shown ps left = values_of (shown_entries (drop (length ps - left) ps))

  -- a walk passes buckets, and shows the next of the entries that were set alone, or one that a bucket
  -- was set to through `&`; after the last bucket it ends for good, with no such entry left out
  abbrev pub WalksOn : {X : Type 0} → (T → X) → WalkView T → Option (Bor X) → WalkView T → Type 0
  WalksOn target old None new = (new.left ≡ 0) × (old.alone ≡ [])
  WalksOn target old (Some shown) new = (new.left < old.left)
      × ((new.alone ≡ old.alone) ⊎ ((v : T) × (old.alone ≡ v ∷ new.alone) × (shown.now ≡ target v)))

module _ {A T : Type 0} where
  -- those of the walked generation
  abbrev pub alone_left : Option (Bor (GenerationView A T)) → ℕ → List T
  alone_left None left = []
  alone_left (Some g) left = last_shown g.now.contents left

  -- a walk with so many buckets left of this generation
  abbrev pub walk_of : Option (Bor (GenerationView A T)) → ℕ → WalkView T
  walk_of generation left = record { left = left; alone = alone_left generation left }

  -- the walked generation is of this home, and has as many buckets as are left, or more
  abbrev pub IsWithin : ℕ → Option (Bor (GenerationView A T)) → ℕ → Type 0
  IsWithin home None left = left ≡ 0
  IsWithin home (Some g) left = (g.now.home ≡ home) × (left ≤ length g.now.contents)
