-- What the steps of an insert do to a table, and what they do together.
use Rattle.std.proofs.Common.{◌≡◌, cond, ℕ, zero, suc, Bool, true, List, [], ◌∷◌, ◌++◌, Option, Some, None, Result, Ok, Err, length, replicate, refl, sym, ap, ◌∙◌, subst, arith, inl, inr}
use Rattle.std.specs.Prelude.{slice_index_or, Contains, IfOk, IsSome}
use Rattle.std.specs.List.Sorted.{IsPermutation}
use Rattle.std.proofs.lemmas.List.{length-map}
use Rattle.std.proofs.lemmas.List.Sorted.{IsPermutation-refl, IsPermutation-sym, IsPermutation-trans, IsPermutation-append_left, IsPermutation-map, Contains-permutation, length_permutation, sum_by-IsPermutation}
use Rattle.std.proofs.lemmas.List.Elements.{Contains-push_cases}
use Rattle.table_generations.specs.Buckets.{value_at}
use Rattle.table_generations.specs.Growth.{entry_of}
use Rattle.table_held.specs.Growth.{IsGrown, IsOpened, KeepsPlaces}
use Rattle.table_held.specs.Held.{InsertKeeps, IsLawfulInsert, IsNewUnlessFound}
use Rattle.table_held.specs.Table.{HeldTable, IsLawful, IsCounted, empty_table, entries, marked, marked_at}
use Rattle.table_cell.specs.declared.bucket.Entry.{Entry}
use Rattle.table_held.specs.declared.place.Place.{Place}
use Rattle.table_generations.proofs.Entries.{values-replicate, value_at-replicate, Contains-values, place_of, not_both, contains_value}

-- with one generation more, what is shown at a place is shown there
shown_more : {X : Type 0} (hs more : List (List (Option X))) (g i : ℕ) (x : X) → value_at (slice_index_or hs g []) i ≡ Some x → value_at (slice_index_or (hs ++ more) g []) i ≡ Some x
shown_more [] more g i x h = absurd (cc)
shown_more (o ∷ hs) more zero i x h = h
shown_more (o ∷ hs) more (suc g) i x h = shown_more hs more g i x h

-- no place of a table without a generation shows anything
nothing_shown : {T : Type 0} (f : ℕ) (p : Place) (e : Entry T) → marked_at (empty_table f) p ≡ Some e → ⊥
nothing_shown f p e h = none_in p.generation p.index e h where
  none_in : {T : Type 0} (g i : ℕ) (e : Entry T) → value_at (slice_index_or ([] ∷ []) g []) i ≡ Some e → ⊥
  none_in zero i e h = cc
  none_in (suc g) i e h = cc

-- where an insert says that its entry is, an entry is shown
pub placed_lives : {T U P : Type 0} (target : T → U) (accepts : U → Bool → Type 0) (shows : P → Option T) (old new : List T) (value : T) (r : Result (P × Option T) T) → InsertKeeps target accepts shows old value r new → IfOk r (λ p. IsSome (shows p.0))
placed_lives target accepts shows old new value (Ok (p, None)) keeps = rw keeps.0 refl
placed_lives target accepts shows old new value (Ok (p, Some back)) (same, (e, at, among, accepted), kept) = rw at refl
placed_lives target accepts shows old new value (Err back) keeps = tt

module _ {T U : Type 0} (target : T → U) (same : U → U → Bool) (hash_of : U → ℕ) (rehash : U → ℕ → Type 0) where
  -- the hash function answers the law for these entries
  abbrev RehashesByLaw : List (Entry T) → Type 0
  RehashesByLaw es = (e : Entry T) (h : ℕ) → Contains es e → rehash (target e.value) h → h ≡ hash_of (target e.value)

  -- the table changed, and its entries didn't
  pub record Carries (old new : HeldTable T) : Type 0 where
    pub kept : IsPermutation (marked old) (marked new)
    pub places : KeepsPlaces old new
    pub first_capacity : new.first_capacity ≡ old.first_capacity
    pub counted : IsCounted old → IsCounted new
    pub lawful : RehashesByLaw (marked old) → IsLawful target same hash_of old → IsLawful target same hash_of new

  pub carries_same : (t : HeldTable T) → Carries t t
  carries_same t = record {
    kept = IsPermutation-refl (marked t);
    places = λ p e h. h;
    first_capacity = refl;
    counted = λ c. c;
    lawful = λ r l. l;
  }

  -- growth
  module _ (old new : HeldTable T) (g : IsGrown target rehash old new) where
    lawful_grown : RehashesByLaw (marked old) → IsLawful target same hash_of old → IsLawful target same hash_of new
    lawful_grown is l = record {
      reached = g.rehashed.reached hash_of is;
      marked = λ i e at. (let x = place_of old.buckets e (Contains-permutation (marked new) (marked old) e (IsPermutation-sym (marked old) (marked new) g.rehashed.kept) (Contains-values new.buckets i e at)) in l.marked x.0 e x.1);
      apart = λ x. rw (sum_by-IsPermutation (λ e. cond (same x (target e.value)) 1 0) (marked old) (marked new) g.rehashed.kept) (l.apart x);
    }

    places_grown_kept : KeepsPlaces old new
    places_grown_kept p e h = rw g.generations (shown_more old.generations _ p.generation p.index e h)

    pub carries_grown : Carries old new
    carries_grown = record {
      kept = g.rehashed.kept;
      places = places_grown_kept;
      first_capacity = g.first_capacity;
      counted = λ c. g.size ∙ c ∙ (let n : length (marked new) ≡ length (marked old) = length_permutation (marked old) (marked new) g.rehashed.kept in rw (length-map (marked old) (λ e. e.value), length-map (marked new) (λ e. e.value)) (sym n));
      lawful = lawful_grown;
    }

  -- the first generation
  carries_first : (f : ℕ) → Carries (empty_table f) (record { first_capacity = f; buckets = replicate f None; generations = replicate f None ∷ []; size = 0 })
  carries_first f = record {
    kept = rw values-replicate (IsPermutation-refl []);
    places = λ p e h. absurd (nothing_shown f p e h);
    first_capacity = refl;
    counted = λ c. rw values-replicate refl;
    lawful = λ r l. record {
      reached = λ i e h. absurd (not_both e _ h (value_at-replicate f i));
      marked = λ i e h. absurd (not_both e _ h (value_at-replicate f i));
      apart = λ x. rw values-replicate (omega arith);
    };
  }

  pub carries_opened : (old new : HeldTable T) → IsOpened old new → Carries old new
  carries_opened old new (inl o) = subst (λ t. Carries t new) (sym o.0) (rw o.1 (carries_first old.first_capacity))
  carries_opened old new (inr o) = rw o.0 (carries_same old)

module _ {T U : Type 0} (target : T → U) where
  -- what an insert's result says of the entries with their bits
  abbrev pub Keeps : (U → Bool → Type 0) → HeldTable T → ℕ → T → Result (Place × Option T) T → HeldTable T → Type 0
  Keeps accepts old hash value (Ok (p, None)) new = (marked_at new p ≡ Some (entry_of value hash)) × IsPermutation (marked old ++ entry_of value hash ∷ []) (marked new)
  Keeps accepts old hash value (Ok (p, Some back)) new =
      (back ≡ value) × ((e : Entry T) × (marked_at new p ≡ Some e) × Contains (marked old) e × accepts (target e.value) true) × IsPermutation (marked old) (marked new)
  Keeps accepts old hash value (Err back) new = (back ≡ value) × IsPermutation (marked old) (marked new)

  module _ (same : U → U → Bool) (hash_of : U → ℕ) (eq : U → U → Bool → Type 0) (rehash : U → ℕ → Type 0) where
    -- all that an insert's result says of the table that it leaves
    pub record Places (old : HeldTable T) (hash : ℕ) (value : T) (r : Result (Place × Option T) T) (new : HeldTable T) : Type 0 where
      pub keeps : Keeps (eq (target value)) old hash value r new
      pub places : KeepsPlaces old new
      pub first_capacity : new.first_capacity ≡ old.first_capacity
      pub counted : IsCounted old → IsCounted new
      pub lawful : IsLawfulInsert target same hash_of eq rehash (IsLawful target same hash_of old) (entries old) hash value → IsLawful target same hash_of new × IsNewUnlessFound target same hash_of (entries old) value r

    -- a lawful insert's hash function answers the law for the entries, also for the value's
    module _ (t : HeldTable T) (hash : ℕ) (value : T) (l : IsLawfulInsert target same hash_of eq rehash (IsLawful target same hash_of t) (entries t) hash value) where
      rehash_entries : RehashesByLaw target same hash_of rehash (marked t)
      rehash_entries e h among a = l.rehash_is e.value h (contains_value (marked t) e among) a

      rehash_more : RehashesByLaw target same hash_of rehash (marked t ++ entry_of value hash ∷ [])
      rehash_more e h among a = elim (Contains-push_cases (marked t) (entry_of value hash) e among) [
        | inl old ↦ rehash_entries e h old a
        | inr new ↦ (let is : value ≡ e.value = ap (λ x. x.value) new in rw (← is) (l.rehash_value_is h (rw (← is) at a)))
      ]

    -- a step before the insert that leaves the entries
    module _ (old base : HeldTable T) (hash : ℕ) (value : T) (carried : Carries target same hash_of rehash old base) where
      values_carried : IsPermutation (entries old) (entries base)
      values_carried = IsPermutation-map (λ e. e.value) (marked old) (marked base) carried.kept

      among_old : (v : T) → Contains (entries base) v → Contains (entries old) v
      among_old v h = Contains-permutation (entries base) (entries old) v (IsPermutation-sym (entries old) (entries base) values_carried) h

      among_base : (v : T) → Contains (entries old) v → Contains (entries base) v
      among_base v h = Contains-permutation (entries old) (entries base) v values_carried h

      lawful_carried : IsLawfulInsert target same hash_of eq rehash (IsLawful target same hash_of old) (entries old) hash value → IsLawfulInsert target same hash_of eq rehash (IsLawful target same hash_of base) (entries base) hash value
      lawful_carried l = record {
        eq_is = λ v a h k. l.eq_is v a (among_old v h) k;
        rehash_is = λ v n h k. l.rehash_is v n (among_old v h) k;
        rehash_value_is = l.rehash_value_is;
        hash_is = l.hash_is;
        table_is = carried.lawful (rehash_entries old hash value l) l.table_is;
      }

      keeps_before : (r : Result (Place × Option T) T) (new : HeldTable T) → Keeps (eq (target value)) base hash value r new → Keeps (eq (target value)) old hash value r new
      keeps_before (Ok (p, None)) new k = (k.0, IsPermutation-trans _ _ _ (IsPermutation-append_left (entry_of value hash ∷ []) (marked old) (marked base) carried.kept) k.1)
      keeps_before (Ok (p, Some back)) new (back_is, (e, lives, among, accepted), kept) =
          (back_is, (e, lives, Contains-permutation (marked base) (marked old) e (IsPermutation-sym (marked old) (marked base) carried.kept) among, accepted), IsPermutation-trans _ _ _ carried.kept kept)
      keeps_before (Err back) new k = (k.0, IsPermutation-trans _ _ _ carried.kept k.1)

      new_before : (r : Result (Place × Option T) T) → IsNewUnlessFound target same hash_of (entries base) value r → IsNewUnlessFound target same hash_of (entries old) value r
      new_before (Ok (p, None)) n = λ v h. n v (among_base v h)
      new_before (Ok (p, Some back)) n = tt
      new_before (Err back) n = λ v h. n v (among_base v h)

      pub places_before : (r : Result (Place × Option T) T) (new : HeldTable T) → Places base hash value r new → Places old hash value r new
      places_before r new s = record {
        keeps = keeps_before r new s.keeps;
        places = λ p e h. s.places p e (carried.places p e h);
        first_capacity = s.first_capacity ∙ carried.first_capacity;
        counted = λ c. s.counted (carried.counted c);
        lawful = λ l. (let both = s.lawful (lawful_carried l) in (both.0, new_before r both.1));
      }

    -- a step after the insert that leaves the entries
    module _ (old mid new : HeldTable T) (hash : ℕ) (value : T) (carried : Carries target same hash_of rehash mid new) where
      keeps_after : (r : Result (Place × Option T) T) → Keeps (eq (target value)) old hash value r mid → Keeps (eq (target value)) old hash value r new
      keeps_after (Ok (p, None)) k = (carried.places p _ k.0, IsPermutation-trans _ _ _ k.1 carried.kept)
      keeps_after (Ok (p, Some back)) (back_is, (e, lives, among, accepted), kept) = (back_is, (e, carried.places p e lives, among, accepted), IsPermutation-trans _ _ _ kept carried.kept)
      keeps_after (Err back) k = (k.0, IsPermutation-trans _ _ _ k.1 carried.kept)

      rehash_kept : (es : List (Entry T)) → IsPermutation es (marked mid) → RehashesByLaw target same hash_of rehash es → RehashesByLaw target same hash_of rehash (marked mid)
      rehash_kept es kept is e h among a = is e h (Contains-permutation (marked mid) es e (IsPermutation-sym es (marked mid) kept) among) a

      rehash_mid : (r : Result (Place × Option T) T) → Keeps (eq (target value)) old hash value r mid → IsLawfulInsert target same hash_of eq rehash (IsLawful target same hash_of old) (entries old) hash value → RehashesByLaw target same hash_of rehash (marked mid)
      rehash_mid (Ok (p, None)) k l = rehash_kept _ k.1 (rehash_more old hash value l)
      rehash_mid (Ok (p, Some back)) k l = rehash_kept (marked old) k.2 (rehash_entries old hash value l)
      rehash_mid (Err back) k l = rehash_kept (marked old) k.1 (rehash_entries old hash value l)

      pub places_after : (r : Result (Place × Option T) T) → Places old hash value r mid → Places old hash value r new
      places_after r s = record {
        keeps = keeps_after r s.keeps;
        places = λ p e h. carried.places p e (s.places p e h);
        first_capacity = carried.first_capacity ∙ s.first_capacity;
        counted = λ c. carried.counted (s.counted c);
        lawful = λ l. (let both = s.lawful l in (carried.lawful (rehash_mid r s.keeps l) both.0, both.1));
      }
