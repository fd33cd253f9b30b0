-- What each way through an insert leaves of a table.
use Rattle.std.proofs.Common.{◌≡◌, ℕ, ◌+◌, ◌<◌, Bool, [], ◌∷◌, ◌++◌, Option, Some, None, Result, Ok, Err, OnOk, OnErr, length, refl, ◌∙◌, arith, inl, inr}
use Rattle.std.proofs.lemmas.List.{length-append, length-map}
use Rattle.std.proofs.lemmas.List.Sorted.{IsPermutation-refl, length_permutation}
use Rattle.std.specs.List.Sorted.{IsPermutation}
use Rattle.table_terms.specs.Laws.{IsLaw}
use Rattle.table_generations.specs.Probe.{IsPassed}
use Rattle.table_generations.specs.Growth.{entry_of}
use Rattle.table_held.specs.Growth.{GrowsIfWanted, IsOpened, TriesWell, PlacesOrGrows, with_entry}
use Rattle.table_held.specs.Table.{HeldTable, entries, marked}
use Rattle.table_held.specs.declared.place.Place.{Place}
use Rattle.table_generations.proofs.Entries.{values-set, Contains-values}
use Rattle.table_generations.proofs.Laws.{vacant_fits}
use Rattle.table_held.proofs.Inserts.{new_at_vacant, new_if_full, lawful_after}
use Rattle.table_held.proofs.Placed.{Places, carries_grown, carries_opened, places_before, places_after}

module _ {T U : Type 0} (target : T → U) (same : U → U → Bool) (hash_of : U → ℕ) (law : IsLaw same hash_of) (eq : U → U → Bool → Type 0) (rehash : U → ℕ → Type 0) (hash : ℕ) (value : T) where
  -- the insert leaves this table of that one
  abbrev Leaves : HeldTable T → Result (Place × Option T) T → HeldTable T → Type 0
  Leaves old r new = Places target same hash_of eq rehash old hash value r new

  count_one_more : (base : HeldTable T) (i : ℕ) → IsPermutation (marked base ++ entry_of value hash ∷ []) (marked (with_entry base i (entry_of value hash))) → base.size ≡ length (entries base) → base.size + 1 ≡ length (entries (with_entry base i (entry_of value hash)))
  count_one_more base i more c =
      let n : length (marked (with_entry base i (entry_of value hash))) ≡ length (marked base) + 1 = length_permutation _ _ more ∙ length-append (marked base) (entry_of value hash ∷ []) in
      let before : length (entries base) ≡ length (marked base) = length-map (marked base) (λ e. e.value) in
      let after : length (entries (with_entry base i (entry_of value hash))) ≡ length (marked (with_entry base i (entry_of value hash))) = length-map (marked (with_entry base i (entry_of value hash))) (λ e. e.value) in
      omega arith

  places_tried : (base : HeldTable T) (r : Result (Place × Option T) T) (new : HeldTable T) → 0 < length base.buckets → TriesWell target (eq (target value)) rehash base hash value r new → Leaves base r new
  places_tried base (Ok (p, None)) new some (i, vac, (is, lives, kept)) =
      let fits : i < length base.buckets = vacant_fits target (eq (target value)) base.buckets hash i some vac in
      let more : IsPermutation (marked base ++ entry_of value hash ∷ []) (marked (with_entry base i (entry_of value hash))) = values-set base.buckets i (entry_of value hash) fits vac.vacant in
      record {
        keeps = (lives, rw is more);
        places = kept;
        first_capacity = rw is refl;
        counted = λ c. rw is (count_one_more base i more c);
        lawful = λ l. (rw is (lawful_after target same hash_of law eq rehash base hash value l i vac fits), new_at_vacant target same hash_of law eq rehash base hash value l i vac);
      }
  places_tried base (Ok (p, Some back)) new some (i, accepted, lives, back_is, is) =
      let a = accepted.accepted in
      record {
        keeps = (back_is, (a.entry, rw is (lives ∙ a.held), Contains-values base.buckets i a.entry a.held, a.accepted), rw is (IsPermutation-refl (marked base)));
        places = λ q e h. rw is h;
        first_capacity = rw is refl;
        counted = λ c. rw is c;
        lawful = λ l. (rw is l.table_is, tt);
      }
  places_tried base (Err back) new some ((i, vac), back_is, is) = record {
    keeps = (back_is, rw is (IsPermutation-refl (marked base)));
    places = λ q e h. rw is h;
    first_capacity = rw is refl;
    counted = λ c. rw is c;
    lawful = λ l. (rw is l.table_is, new_at_vacant target same hash_of law eq rehash base hash value l i vac);
  }

  -- growth was refused where every bucket was set
  places_full : (base : HeldTable T) → IsPassed target (eq (target value)) base.buckets hash (length base.buckets) → Leaves base (Err value) base
  places_full base passed = record {
    keeps = (refl, IsPermutation-refl (marked base));
    places = λ q e h. h;
    first_capacity = refl;
    counted = λ c. c;
    lawful = λ l. (l.table_is, new_if_full target same hash_of law eq rehash base hash value l passed);
  }

  places_growing : (base : HeldTable T) (r : Result (Place × Option T) T) (new : HeldTable T) → 0 < length base.buckets → PlacesOrGrows target (eq (target value)) rehash base hash value r new → Leaves base r new
  places_growing base r new some (inl placed) = places_tried base r new some placed
  places_growing base r new some (inr (passed, inl refused)) = rw (refused.0, refused.1) (places_full base passed)
  places_growing base r new some (inr (passed, inr (mid, grown, placed))) =
      places_before target same hash_of eq rehash base mid hash value (carries_grown target same hash_of rehash base mid grown) r new
      (places_tried mid r new (let twice = grown.doubled in omega arith) placed)

  -- the table may grow after the insert
  pub places_grown : {E : Type 0} (old mid : HeldTable T) (r : Result (Place × Option T) T) (new : HeldTable T) (grows : Result (Unit {0}) E) → Leaves old r mid → OnOk grows (GrowsIfWanted target rehash mid new) → OnErr grows (new ≡ mid) → Leaves old r new
  places_grown old mid r new (Ok done) placed (inl grown) refused = places_after target same hash_of eq rehash old mid new hash value (carries_grown target same hash_of rehash mid new grown.1) r placed
  places_grown old mid r new (Ok done) placed (inr unwanted) refused = rw unwanted.1 placed
  places_grown old mid r new (Err e) placed grown refused = rw refused placed

  -- a generation is opened, and the value is placed
  pub places_opened : (old base : HeldTable T) (r : Result (Place × Option T) T) (new : HeldTable T) → IsOpened old base → 0 < length base.buckets
      → PlacesOrGrows target (eq (target value)) rehash base hash value r new → Leaves old r new
  places_opened old base r new opened some placed = places_before target same hash_of eq rehash old base hash value (carries_opened target same hash_of rehash old base opened) r new (places_growing base r new some placed)
