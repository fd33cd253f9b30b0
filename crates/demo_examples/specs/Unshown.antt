-- What an insert leaves that shows its entry at once, and the answer without what it shows.
use Rattle.std.specs.Prelude.{◌≡◌, ℕ, Bool, Option, Result, Ok, Err}
use Rattle.std.specs.Borrow.{Bor}
use Rattle.table_held.specs.Held.{InsertLeaves}
use Rattle.table_held.specs.Table.{HeldTable}

-- the same answer, without the target that is shown
abbrev pub IsUnshown : {T U : Type 0} → Result (Bor U × Option T) T → Result (Option T) T → Type 0
IsUnshown (Ok (shown, back)) (Ok out) = out ≡ back
IsUnshown (Ok (shown, back)) (Err out) = ⊥
IsUnshown (Err back) (Ok out) = ⊥
IsUnshown (Err back) (Err out) = out ≡ back

module _ {T U : Type 0} (target : T → U) (same : U → U → Bool) (hash_of : U → ℕ) where
  -- the table is what some insert leaves that shows its entry and is answered so
  abbrev pub LeavesUnshown : (U → U → Bool → Type 0) → (U → ℕ → Type 0) → HeldTable T → ℕ → T
      → Result (Option T) T → HeldTable T → Type 0
  LeavesUnshown eq rehash old hash value out new =
      (told : Result (Bor U × Option T) T)
      × InsertLeaves target same hash_of eq rehash old hash value told new
      × IsUnshown told out
