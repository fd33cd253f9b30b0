-- What an insert leaves, in the words of its contract and of the list object.
use Rattle.std.proofs.Common.{◌≡◌, ℕ, Bool, List, [], ◌∷◌, ◌++◌, Option, Some, None, Result, Ok, Err, refl, ap, append_assoc}
use Rattle.std.specs.Prelude.{option_map}
use Rattle.std.specs.List.Sorted.{IsPermutation}
use Rattle.std.proofs.lemmas.List.{map-append}
use Rattle.std.proofs.lemmas.List.Sorted.{IsPermutation-map, IsPermutation-append_right, IsPermutation-append_comm}
use Rattle.table_generations.specs.Growth.{entry_of}
use Rattle.table_held.specs.Growth.{KeepsPlaces}
use Rattle.table_held.specs.Held.{InsertKeeps, InsertMarks, Inserted}
use Rattle.table_generations.specs.Buckets.{values_of}
use Rattle.table_held.specs.Table.{HeldTable, IsLater, IsCounted, held, entries, entry_at, marked_at, marked}
use Rattle.table_cell.specs.declared.bucket.Entry.{Entry}
use Rattle.table_held.specs.declared.place.Place.{Place}
use Rattle.table_generations.proofs.Entries.{contains_value}
use Rattle.table_held.proofs.Answered.{stays, places_as_list}
use Rattle.table_held.proofs.Placed.{Keeps, Places}

-- two parts at the end of a list, in the other order
pub swapped : {X : Type 0} (a b c : List X) → IsPermutation ((a ++ b) ++ c) ((a ++ c) ++ b)
swapped a b c = rw (append_assoc a b c, append_assoc a c b) (IsPermutation-append_right a _ _ (IsPermutation-append_comm b c))

module _ {T : Type 0} where
  pub values_kept : (es fs : List (Entry T)) → IsPermutation es fs → IsPermutation (values_of es) (values_of fs)
  values_kept es fs kept = IsPermutation-map (λ e. e.value) es fs kept

  pub values_more : (es fs : List (Entry T)) (e : Entry T) → IsPermutation (es ++ e ∷ []) fs → IsPermutation (values_of es ++ e.value ∷ []) (values_of fs)
  values_more es fs e kept = rw (map-append (λ e. e.value) es (e ∷ [])) at (values_kept (es ++ e ∷ []) fs kept)

  -- the entry at a place, where it is known with its bits
  pub home_with : (o : Option (Entry T)) (v : T) → option_map (λ e. e.value) o ≡ Some v → (e : Entry T) × (o ≡ Some e) × (e.value ≡ v)
  home_with None v h = absurd (cc)
  home_with (Some e) v h = (e, refl, cc)

module _ {T U : Type 0} (target : T → U) where
  module _ (accepts : U → Bool → Type 0) (old : HeldTable T) (hash : ℕ) (value : T) (new : HeldTable T) where
    marks_as : (r : Result (Place × Option T) T) → Keeps target accepts old hash value r new → InsertMarks (marked old) hash value r (marked new)
    marks_as (Ok (p, None)) k = k.1
    marks_as (Ok (p, Some back)) k = k.2
    marks_as (Err back) k = k.1

    keeps_as : (r : Result (Place × Option T) T) → Keeps target accepts old hash value r new → InsertKeeps target accepts (entry_at new) (entries old) value r (entries new)
    keeps_as (Ok (p, None)) k = (rw k.0 refl, values_more (marked old) (marked new) (entry_of value hash) k.1)
    keeps_as (Ok (p, Some back)) (back_is, (e, lives, among, accepted), kept) =
        (back_is, (e.value, rw lives refl, contains_value (marked old) e among, accepted), values_kept (marked old) (marked new) kept)
    keeps_as (Err back) k = (k.0, values_kept (marked old) (marked new) k.1)

    later_as : (r : Result (Place × Option T) T) → Keeps target accepts old hash value r new → KeepsPlaces old new → IsLater old new
    later_as r k kept p v at =
        let x = home_with (marked_at old p) v at.lives in
        record { lives = rw (kept p x.0 x.1) (ap Some x.2); among = stays target accepts (entry_at new) (entries old) value (entries new) r (keeps_as r k) v at.among }

  module _ (same : U → U → Bool) (hash_of : U → ℕ) (eq : U → U → Bool → Type 0) (rehash : U → ℕ → Type 0) (old : HeldTable T) (hash : ℕ) (value : T) (new : HeldTable T) where
    -- all that an insert says
    pub inserted : (r : Result (Place × Option T) T) → IsCounted old → Places target same hash_of eq rehash old hash value r new → Inserted target same hash_of eq rehash old hash value r new
    inserted r counted s =
        let keeps = keeps_as (eq (target value)) old hash value new r s.keeps in
        record {
          says = record {
            keeps = keeps;
            marks = marks_as (eq (target value)) old hash value new r s.keeps;
            later = later_as (eq (target value)) old hash value new r s.keeps s.places;
            counted = s.counted counted;
            lawful = s.lawful;
            as_list = places_as_list target same hash_of held eq rehash old hash value new r keeps (s.counted counted) s.lawful;
          };
          places = s.places;
          first_capacity = s.first_capacity;
        }
