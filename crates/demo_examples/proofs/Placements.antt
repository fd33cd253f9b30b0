-- What follows from an insert whose answer shows nothing.
use Rattle.std.proofs.Common.{ℕ, Bool, Option, Result, Ok, Err}
use Rattle.table_held.specs.Held.{Inserted}
use Rattle.table_held.specs.Table.{HeldTable, Place}
use Rattle.demo_examples.specs.Unshown.{LeavesUnshown}

module _ {T U : Type 0} (target : T → U) (same : U → U → Bool) (hash_of : U → ℕ) (eq : U → U → Bool → Type 0) (rehash : U → ℕ → Type 0) (old : HeldTable T) (hash : ℕ) (value : T) (new : HeldTable T) where
  -- it is an insert with some answer
  pub inserted : (out : Result (Option T) T) → LeavesUnshown target same hash_of eq rehash old hash value out new
      → (r : Result (Place × Option T) T) × Inserted target same hash_of eq rehash old hash value r new
  inserted out (told, (r, does, shows), quiet) = (r, does)

  -- one that wasn't refused names a place
  pub inserted_at : (out : Option T) → LeavesUnshown target same hash_of eq rehash old hash value (Ok out) new
      → (p : Place) × (back : Option T) × Inserted target same hash_of eq rehash old hash value (Ok (p, back)) new
  inserted_at out (Ok (shown, b), (Ok (p, back), does, shows), quiet) = (p, back, does)
  inserted_at out (Ok (shown, b), (Err back, does, shows), quiet) = absurd shows
  inserted_at out (Err e, leaves, quiet) = absurd quiet
