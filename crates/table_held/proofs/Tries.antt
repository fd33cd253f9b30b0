-- What one try to place a value in the current generation does to a table.
use Rattle.std.proofs.Common.{◌≡◌, ℕ, ◌<◌, Bool, List, Some, None, Result, Option, Ok, Err, length, refl, ap, ◌∙◌, get_or-set_same}
use Rattle.std.specs.Prelude.{slice_set}
use Rattle.std.proofs.lemmas.List.{length-map, map-set}
use Rattle.table_generations.specs.Buckets.{Content, own, value_at, shown, shown_all}
use Rattle.table_generations.specs.Generations.{CountsInsert}
use Rattle.table_generations.specs.Growth.{Inserts, entry_of}
use Rattle.table_generations.specs.Probe.{IsVacant}
use Rattle.table_held.specs.Growth.{TriesToPlace}
use Rattle.table_held.specs.Table.{HeldTable, table_of, marked_at, IsKept}
use Rattle.table_cell.specs.declared.bucket.Entry.{Entry}
use Rattle.table_held.specs.declared.place.Place.{Place}
use Rattle.table_generations.specs.declared.fixed.Refusal.{Refusal}
use Rattle.table_generations.specs.declared.fixed.Refusal.TheVariants.{Full, NoMemory}
use Rattle.table_generations.proofs.Laws.{vacant_fits}
use Rattle.table_generations.proofs.Counts.{full_values}
use Rattle.table_held.proofs.Rows.{current_row}
use Rattle.table_held.proofs.Kept.{kept_placed, table_placed, places_kept}

-- where a row shows buckets there is one
pub has_bucket : {T : Type 0} (cur : List (Content T)) → 0 < length (shown_all cur) → 0 < length cur
has_bucket cur some = let long : length (shown_all cur) ≡ length cur = length-map cur shown in rw (← long) some

module _ {T U : Type 0} (target : T → U) (answers : U → Bool → Type 0) (first : ℕ) (gs : List (List (Content T))) (cur : List (Content T)) (size : ℕ) (kept : IsKept first gs cur size)
    (some : 0 < length cur) (hash : ℕ) (value : T) where
  fits : (i : ℕ) → IsVacant target answers (shown_all cur) hash i → i < length cur
  fits i v = let long : length (shown_all cur) ≡ length cur = length-map cur shown in rw (← long) (vacant_fits target answers (shown_all cur) hash i (rw long some) v)

  pub kept_inserted : (r : Result (ℕ × Option T) (Refusal T)) (new : List (Content T)) (n : ℕ) → Inserts target answers cur hash value r new → CountsInsert {P = ℕ} size r n → IsKept first gs new n
  kept_inserted (Ok (p, None)) new n (i, v, (at, is)) c = rw (is, c) (kept_placed first gs cur size kept i (entry_of value hash) (fits i v) v.vacant)
  kept_inserted (Ok (p, Some back)) new n (i, a, at, back_is, same) c = rw (same, c) kept
  kept_inserted (Err (Full back)) new n (passed, any, back_is, same) c = rw (same, c) kept
  kept_inserted (Err (NoMemory back)) new n (v, back_is, same) c = rw (same, c) kept

  -- a placed entry is shown by its bucket
  shows_placed : (i : ℕ) → IsVacant target answers (shown_all cur) hash i → (new : List (Content T)) → new ≡ slice_set cur i (own (entry_of value hash)) → value_at (shown_all new) i ≡ Some (entry_of value hash)
  shows_placed i v new is = rw (is, map-set shown cur i (own (entry_of value hash))) (get_or-set_same (shown_all cur) i (Some (entry_of value hash)) None (rw length-map (fits i v)))

  -- a bucket of the current generation, as a place of its table
  abbrev place_in : ℕ → Place
  place_in i = record { generation = length gs; index = i }

  place_shows : (new : List (Content T)) (n i : ℕ) → marked_at (table_of first gs new n) (place_in i) ≡ value_at (shown_all new) i
  place_shows new n i = ap (λ row. value_at row i) (current_row gs new)

  -- the answer, for a table that has these generations
  module _ (old : HeldTable T) (is : table_of first gs cur size ≡ old) where
    pub tried_ok : (index : ℕ) (back : Option T) (new : List (Content T)) (n : ℕ) → Inserts target answers cur hash value (Ok (index, back)) new → CountsInsert {T = T} {P = ℕ} size (Ok (index, back)) n
        → TriesToPlace target answers old hash value (Ok (place_in index, back)) (table_of first gs new n)
    tried_ok index None new n (i, v, (at, set)) c =
        let e : Entry T = entry_of value hash in
        rw (← is) (
          i,
          v,
          (
            rw (set, c) (table_placed first gs cur size kept i e (fits i v) v.vacant),
            rw at (place_shows new n i ∙ shows_placed i v new set),
            rw set (places_kept first gs cur size kept i e (fits i v) v.vacant),
          ),
        )
    tried_ok index (Some back) new n (i, a, at, back_is, same) c =
        rw (← is) (i, a, rw at (place_shows cur size i), back_is, rw (same, c) refl)

    pub tried_err : (r : Refusal T) (new : List (Content T)) (n : ℕ) → Inserts target answers cur hash value (Err r) new → CountsInsert {T = T} {P = ℕ} size (Err r) n
        → TriesToPlace target answers old hash value (Err r) (table_of first gs new n)
    tried_err (Full back) new n (passed, any, back_is, same) c =
        rw (← is) (passed, kept.counted ∙ full_values target answers (shown_all cur) hash passed, back_is, rw (same, c) refl)
    tried_err (NoMemory back) new n (v, back_is, same) c = rw (← is) (v, back_is, rw (same, c) refl)
