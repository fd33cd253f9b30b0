-- What is read of buckets one after another, into a window, before any of it is used.
use Rattle.std.specs.Prelude.{◌≡◌, ℕ, zero, suc, ◌+◌, ◌<◌, ◌≤◌, List, Some, None, slice_index_or}
use Rattle.table_generations.specs.Buckets.{Content, content_at, shown}
use Rattle.table_cell.specs.declared.bucket.Entry.{Entry}
use Rattle.table_generations.specs.declared.growth.Ahead.{Ahead}

module _ {T : Type 0} (ps : List (Content T)) where
  -- no bucket from i on and before k shows an entry
  abbrev pub NoneShown : ℕ → ℕ → Type 0
  NoneShown i k = (j : ℕ) → i ≤ j → j < k → shown (content_at ps j) ≡ None

  module _ {X : Type 0} (of : ℕ → X → Type 0) where
    -- so many places of a window, from place k on, hold what was read of buckets one after another, from bucket p on and before
    -- bucket end, and no other bucket there shows an entry
    abbrev pub AreReadFrom : ℕ → ℕ → ℕ → ℕ → List X → Type 0
    AreReadFrom end p zero k window = (p ≤ end) × NoneShown p end
    AreReadFrom end p (suc n) k window = (i : ℕ) × (x : X) × ((d : X) → slice_index_or window k d ≡ x)
        × (p ≤ i) × NoneShown p i × of i x × (i < end) × AreReadFrom end (i + 1) n (k + 1) window

  -- the entry that bucket i shows was read, beside a hash that rehash may answer for it
  abbrev pub IsAhead : {U : Type 0} → (T → U) → (U → ℕ → Type 0) → ℕ → Ahead → Type 0
  IsAhead target rehash i read = (read.index ≡ i) × (e : Entry T) × (shown (content_at ps i) ≡ Some e)
      × rehash (target e.value) read.hash
