-- What an insert by a law does to a raw table.
use Rattle.std.specs.Prelude.{◌≡◌, ◌++◌, Bool, true, [], ◌∷◌, Option, Some, None, Result, Ok, Err, Contains}
use Rattle.std.specs.List.Sorted.{IsPermutation}
use Rattle.table_held.specs.Table.{HeldTable, entries, entry_at}
use Rattle.table_held.specs.declared.place.Place.{Place}
use Rattle.std.specs.Borrow.{Bor}
use Rattle.table_held.specs.Shown.{ShowsAt}
use Rattle.table_sets.specs.Sets.{NonePasses}
use Rattle.table_sets.specs.declared.inserted.Shown.{Shown}
use Rattle.table_sets.specs.declared.inserted.Shown.TheVariants as show

module _ {T U : Type 0} (target : T → U) (same : U → U → Bool) where
  -- the entry at this place is one of the table before, and the same as the value
  pub record IsSameAt (old : HeldTable T) (value : T) (new : HeldTable T) (p : Place) : Type 0 where
    pub entry : T
    pub lives : entry_at new p ≡ Some entry
    pub among : Contains (entries old) entry
    pub is_same : same (target value) (target entry) ≡ true

  -- a value is placed where no entry is the same, and comes back otherwise; the place shows the entry
  abbrev pub PlacesByLaw : HeldTable T → T → Result (Place × Option T) T → HeldTable T → Type 0
  PlacesByLaw old value (Ok (p, None)) new =
      NonePasses target (same (target value)) (entries old) × (entry_at new p ≡ Some value)
      × IsPermutation (entries old ++ value ∷ []) (entries new)
  PlacesByLaw old value (Ok (p, Some back)) new =
      IsSameAt old value new p × (back ≡ value) × IsPermutation (entries old) (entries new)
  PlacesByLaw old value (Err back) new =
      NonePasses target (same (target value)) (entries old) × (back ≡ value)
      × IsPermutation (entries old) (entries new)

module _ {T U : Type 0} (target : T → U) where
  -- the same answer, with the target of the entry at the place
  abbrev pub ShowsByLaw : Result (Place × Option T) T → HeldTable T → Shown (Bor U) T → Type 0
  ShowsByLaw (Ok (p, None)) t (show.Placed shown) =
      ShowsAt (entry_at t p) (λ e. shown.now ≡ target e)
  ShowsByLaw (Ok (p, Some value)) t (show.Found shown back) =
      ShowsAt (entry_at t p) (λ e. shown.now ≡ target e) × (back ≡ value)
  ShowsByLaw (Err value) t (show.Refused back) = back ≡ value
  ShowsByLaw r t s = ⊥
