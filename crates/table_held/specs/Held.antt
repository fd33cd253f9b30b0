-- What the calls on a table held alone say: the words of Shown, for the held table.
use Rattle.std.specs.Prelude.{◌≡◌, ℕ, Bool, Option, Result}
use Rattle.std.specs.Borrow.{Bor}
use Rattle.table_held.specs.Table.{HeldTable, held}
use Rattle.table_held.specs.Shown as shown
pub use Rattle.table_held.specs.Shown.{ShowsAt, FindsOne, FindsNone, InsertKeeps, InsertMarks, InsertAnswers, InsertReplies, LookupReplies, IsNew, IsNewUnlessFound, IsLawfulInsert, IsLawfulLookup, ResultShows, equal}
use Rattle.table_held.specs.declared.place.Place.{Place}

module _ {T U : Type 0} (target : T → U) (same : U → U → Bool) (hash_of : U → ℕ) where
  -- a lawful insert is answered as each list that the table stands for answers it, and the table
  -- then stands for the list after
  abbrev pub PlacesAsList : (U → U → Bool → Type 0) → (U → ℕ → Type 0) → HeldTable T → ℕ → T
      → Result (Place × Option T) T → HeldTable T → Type 0
  PlacesAsList eq rehash old hash value result new =
      shown.PlacesAsList target same hash_of held eq rehash old hash value result new

  -- a lawful look-up is answered as each list that the table stands for answers it
  abbrev pub LooksUpAsList : (U → Bool → Type 0) → HeldTable T → ℕ → Option U → Type 0
  LooksUpAsList answers t hash result =
      shown.LooksUpAsList target same hash_of held answers t hash result

  -- all that an insert says of its result and of the table that it leaves
  pub record Inserted (eq : U → U → Bool → Type 0) (rehash : U → ℕ
      → Type 0) (old : HeldTable T) (hash : ℕ) (value : T)
      (r : Result (Place × Option T) T) (new : HeldTable T) : Type 0 where
    pub says : shown.InsertSays target same hash_of held eq rehash old hash value r new
    pub places : shown.KeepsPlaces held old new
    pub first_capacity : new.first_capacity ≡ old.first_capacity

  -- what an insert that shows its entry leaves: the table is that after some answer of an insert,
  -- and what is shown is the entry at the place that the answer names
  abbrev pub InsertLeaves : (U → U → Bool → Type 0) → (U → ℕ → Type 0) → HeldTable T → ℕ → T
      → Result (Bor U × Option T) T → HeldTable T → Type 0
  InsertLeaves eq rehash old hash value shows new =
      (r : Result (Place × Option T) T) × Inserted eq rehash old hash value r new
      × shown.ResultShows target held r shows new

  -- what an insert shows at once: as one that leaves such a table
  abbrev pub InsertShows : (U → U → Bool → Type 0) → (U → ℕ → Type 0) → HeldTable T → ℕ → T
      → Result (Bor U × Option T) T → Type 0
  InsertShows eq rehash old hash value shows =
      (new : HeldTable T) × InsertLeaves eq rehash old hash value shows new
