-- Lists of which each value is the same as at most one element.
use Rattle.std.proofs.Common.{◌≡◌, cond, ℕ, zero, suc, ◌+◌, ◌≤◌, ◌⊎◌, Bool, true, false, List, [], ◌∷◌, ◌++◌, Some, None, refl, sym, ◌∙◌, arith, inl, inr}
use Rattle.std.specs.Prelude.{Contains, count_by}
use Rattle.std.specs.List.{find}
use Rattle.std.proofs.lemmas.Bool.{cases_Bool, false≢true}
use Rattle.std.proofs.lemmas.List.Sums.{sum_by-append, sum_by-cons}
use Rattle.std.proofs.lemmas.List.Elements.{Contains-append_right}
use Rattle.table_terms.specs.Laws.{IsLaw, AllApart}

module _ {X : Type 0} where
  -- an element of a list is its first or one of the others
  pub first_or_other : (x : X) (xs : List X) (v : X) → Contains (x ∷ xs) v → (x ≡ v) ⊎ Contains xs v
  first_or_other x xs v (zero, within, is) = inl is
  first_or_other x xs v (suc k, within, is) = inr (k, omega arith, is)

  others_too : (P : X → Type 0) (x : X) (xs : List X) → ((y : X) → Contains (x ∷ xs) y → P y) → (y : X) → Contains xs y → P y
  others_too P x xs all y among = all y (Contains-append_right (x ∷ []) xs y among)

module _ {X : Type 0} (passes : X → Bool) where
  -- none passes
  pub none_counts : (xs : List X) → ((x : X) → Contains xs x → passes x ≡ false) → count_by passes xs ≡ 0
  none_counts [] none = refl
  none_counts (x ∷ xs) none = rw (none x (0, omega arith, refl)) (none_counts xs (others_too (λ y. passes y ≡ false) x xs none))

  pub none_is_found : (xs : List X) → ((x : X) → Contains xs x → passes x ≡ false) → find passes xs ≡ None
  none_is_found [] none = refl
  none_is_found (x ∷ xs) none = rw (none x (0, omega arith, refl)) (none_is_found xs (others_too (λ y. passes y ≡ false) x xs none))

  -- one passes, and where no other does, it is found
  pub one_counts : (xs : List X) (v : X) → Contains xs v → passes v ≡ true → 1 ≤ count_by passes xs
  one_counts [] v (k, within, is) passed = absurd (omega arith)
  one_counts (x ∷ xs) v among passed = elim (first_or_other x xs v among) [
    | inl is ↦ rw (sum_by-cons, is, passed) (omega arith)
    | inr other ↦ omega (arith, sum_by-cons (λ y. cond (passes y) 1 0) x xs, one_counts xs v other passed)
  ]

  pub one_is_found : (xs : List X) (v : X) → count_by passes xs ≤ 1 → Contains xs v → passes v ≡ true → find passes xs ≡ Some v
  one_is_found [] v few (k, within, is) passed = absurd (omega arith)
  one_is_found (x ∷ xs) v few among passed = elim (first_or_other x xs v among) [
    | inl is ↦ rw (is, passed) refl
    | inr other ↦ elim (cases_Bool (passes x)) [
      | inl first ↦ absurd (let counted : count_by passes (x ∷ xs) ≡ 1 + count_by passes xs = rw (sum_by-cons, first) refl in omega (arith, few, counted, one_counts xs v other passed))
      | inr not_first ↦ rw not_first (one_is_found xs v (omega (arith, few, sum_by-cons (λ y. cond (passes y) 1 0) x xs)) other passed)
    ]
  ]

module _ {X : Type 0} where
  -- where another test accepts all that this one accepts, it accepts as many
  count_below : (passes others : X → Bool) → ((x : X) → passes x ≡ true → others x ≡ true) → (xs : List X) → count_by passes xs ≤ count_by others xs
  count_below passes others within [] = omega arith
  count_below passes others within (x ∷ xs) =
      let rest = count_below passes others within xs in
      let one = sum_by-cons (λ y. cond (passes y) 1 0) x xs in
      let other = sum_by-cons (λ y. cond (others y) 1 0) x xs in
      elim (cases_Bool (passes x)) [
        | inl passed ↦ (let also = within x passed in rw (one, other, passed, also) (omega arith))
        | inr not_passed ↦ rw (one, other, not_passed) (omega arith)
      ]

  -- where all that pass are alike, and each is like one element alone, few pass
  pub few_of_class : (passes : X → Bool) (alike : X → X → Bool) (xs : List X) → ((v w : X) → passes v ≡ true → passes w ≡ true → alike v w ≡ true) → ((v : X) → count_by (alike v) xs ≤ 1) → count_by passes xs ≤ 1
  few_of_class passes alike [] one_class few = omega arith
  few_of_class passes alike (x ∷ xs) one_class few = elim (cases_Bool (passes x)) [
    | inl passed ↦ omega (arith, few x, count_below passes (alike x) (λ w also. one_class x w passed also) (x ∷ xs))
    | inr not_passed ↦
        (let rest = few_of_class passes alike xs one_class (λ v. omega (arith, few v, sum_by-cons (λ y. cond (alike v y) 1 0) x xs)) in
        rw (sum_by-cons (λ y. cond (passes y) 1 0) x xs, not_passed) (omega arith))
  ]

module _ {E U : Type 0} (image : E → U) (same : U → U → Bool) (hash_of : U → ℕ) (law : IsLaw same hash_of) where
  pub not_true : (x y z : U) → same x z ≡ true → same z y ≡ false → same x y ≡ false
  not_true x y z one other = elim (cases_Bool (same x y)) [
    | inl both ↦ absurd (false≢true (sym other ∙ law.transitive z x y (law.symmetric x z one) both))
    | inr unlike ↦ unlike
  ]

  -- one more element, which is the same as none
  pub apart_more : (es : List E) → AllApart (λ y e. same y (image e)) es → (w : E) → ((e : E) → Contains es e → same (image w) (image e) ≡ false) → AllApart (λ y e. same y (image e)) (es ++ w ∷ [])
  apart_more es apart w none x = elim (cases_Bool (same x (image w))) [
    | inl like ↦ rw sum_by-append (rw (none_counts (λ e. same x (image e)) es (λ e among. not_true x (image e) (image w) like (none e among)), like) (omega arith))
    | inr unlike ↦ rw sum_by-append (rw unlike (let few = apart x in omega arith))
  ]
