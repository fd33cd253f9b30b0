-- The values of a list of places.
use Rattle.std.proofs.Common.{◌≡◌, ◌≢◌, ℕ, zero, suc, ◌+◌, ◌<◌, ◌⊎◌, inl, inr, List, [], ◌∷◌, ◌++◌, Option, Some, None, length, take, refl, sym, ap, ◌∙◌, arith, replicate, get_or-set_other, get_or-set_same}
use Rattle.std.specs.Prelude.{slice_set, Contains}
use Rattle.std.specs.List.Sorted.{IsPermutation}
use Rattle.std.proofs.lemmas.Bool.{cases_eq}
use Rattle.std.proofs.lemmas.List.{take_more}
use Rattle.std.proofs.lemmas.List.Elements.{Contains-append_right}
use Rattle.std.proofs.lemmas.List.Sorted.{IsPermutation-to_front, IsPermutation-cons}
use Rattle.table_generations.specs.Buckets.{values, value_at}
use Rattle.table_generations.specs.Buckets.{values_of}
use Rattle.table_cell.specs.declared.bucket.Entry.{Entry}

module _ {X : Type 0} where
  -- n places without a value
  abbrev pub no_values : ℕ → List (Option X)
  no_values n = replicate n None

  pub some_same : (v w : X) (o : Option X) → o ≡ Some v → o ≡ Some w → v ≡ w
  some_same v w o e f = cc

  pub not_both : (v : X) (o : Option X) → o ≡ Some v → o ≡ None → ⊥
  not_both v o e f = cc

  -- a value in an empty place is one more entry
  pub values-set : (ps : List (Option X)) (i : ℕ) (v : X) → i < length ps → value_at ps i ≡ None → IsPermutation (values ps ++ v ∷ []) (values (slice_set ps i (Some v)))
  values-set [] i v lt e = absurd (omega arith)
  values-set (None ∷ ps) zero v lt e = IsPermutation-to_front (values ps) v
  values-set (None ∷ ps) (suc i) v lt e = values-set ps i v (omega arith) e
  values-set (Some w ∷ ps) zero v lt e = absurd (cc)
  values-set (Some w ∷ ps) (suc i) v lt e = IsPermutation-cons w _ _ (values-set ps i v (omega arith) e)

  -- a place's value is an entry
  pub Contains-values : (ps : List (Option X)) (i : ℕ) (v : X) → value_at ps i ≡ Some v → Contains (values ps) v
  Contains-values [] i v e = absurd (cc)
  Contains-values (None ∷ ps) zero v e = absurd (cc)
  Contains-values (None ∷ ps) (suc i) v e = Contains-values ps i v e
  Contains-values (Some w ∷ ps) zero v e = (0, omega arith, cc)
  Contains-values (Some w ∷ ps) (suc i) v e = Contains-append_right (w ∷ []) (values ps) v (Contains-values ps i v e)

  -- an entry is a place's value
  pub place_of : (ps : List (Option X)) (v : X) → Contains (values ps) v → (i : ℕ) × (value_at ps i ≡ Some v)
  place_of [] v (k, lt, e) = absurd (omega arith)
  place_of (None ∷ ps) v h = let r = place_of ps v h in (suc r.0, r.1)
  place_of (Some w ∷ ps) v (zero, lt, e) = (0, ap Some e)
  place_of (Some w ∷ ps) v (suc k, lt, e) = let r = place_of ps v (k, omega arith, e) in (suc r.0, r.1)

  pub values-append : (ps qs : List (Option X)) → values (ps ++ qs) ≡ values ps ++ values qs
  values-append [] qs = refl
  values-append (None ∷ ps) qs = values-append ps qs
  values-append (Some v ∷ ps) qs = ap (λ vs. v ∷ vs) (values-append ps qs)

  pub values-take_more : (ps : List (Option X)) (i : ℕ) → i < length ps → values (take (i + 1) ps) ≡ values (take i ps) ++ values (value_at ps i ∷ [])
  values-take_more ps i lt = rw (take_more ps i None lt) (values-append (take i ps) _)

  pub values-replicate : (n : ℕ) → values (no_values n) ≡ []
  values-replicate zero = refl
  values-replicate (suc n) = values-replicate n

  pub value_at-replicate : (n i : ℕ) → value_at (no_values n) i ≡ None
  value_at-replicate zero i = refl
  value_at-replicate (suc n) zero = refl
  value_at-replicate (suc n) (suc i) = value_at-replicate n i

  -- what stands where place i was set: the new value there, and at each other place what stood there
  pub value_at-set : (ps : List (Option X)) (i : ℕ) (v : X) → i < length ps → (j : ℕ) (w : X) → value_at (slice_set ps i (Some v)) j ≡ Some w → ((j ≡ i) × (w ≡ v)) ⊎ ((j ≢ i) × (value_at ps j ≡ Some w))
  value_at-set ps i v fits j w h = elim (cases_eq j i) [
    | inl e ↦ inl (e, some_same _ _ (value_at (slice_set ps i (Some v)) i) (rw e at h) (get_or-set_same ps i (Some v) None fits))
    | inr ne ↦ inr (ne, sym (get_or-set_other ps i j (Some v) None ne) ∙ h)
  ]

  -- each value of the whole list has a place, and where every place is set there are as many values as places
  pub all_set : (ps : List (Option X)) → ((i : ℕ) → i < length ps → (v : X) × (value_at ps i ≡ Some v)) → length (values ps) ≡ length ps
  all_set [] h = refl
  all_set (None ∷ ps) h = absurd (let f = h 0 (omega arith) in let e : None ≡ Some f.0 = f.1 in cc)
  all_set (Some v ∷ ps) h = ap suc (all_set ps (λ i lt. h (suc i) (omega arith)))

module _ {T : Type 0} where
  -- the value of an entry is one of the values
  pub contains_value : (es : List (Entry T)) (e : Entry T) → Contains es e → Contains (values_of es) e.value
  contains_value [] e (k, lt, q) = absurd (omega arith)
  contains_value (x ∷ es) e (zero, lt, q) = (0, omega arith, ap (λ y. y.value) q)
  contains_value (x ∷ es) e (suc k, lt, q) = Contains-append_right (x.value ∷ []) (values_of es) e.value (contains_value es e (k, omega arith, q))

  -- a value is that of an entry
  pub entry_with : (es : List (Entry T)) (v : T) → Contains (values_of es) v → (e : Entry T) × Contains es e × (e.value ≡ v)
  entry_with [] v (k, lt, q) = absurd (omega arith)
  entry_with (x ∷ es) v (zero, lt, q) = (x, (0, omega arith, refl), q)
  entry_with (x ∷ es) v (suc k, lt, q) = let r = entry_with es v (k, omega arith, q) in (r.0, Contains-append_right (x ∷ []) es r.0 r.1, r.2)
