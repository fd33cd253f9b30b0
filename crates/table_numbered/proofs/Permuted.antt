-- Lists of which no two elements are the same: where two have the same elements, one is the other in another order.
use Rattle.std.proofs.Common.{◌≡◌, cond, ℕ, ◌+◌, Bool, true, false, List, [], ◌∷◌, remove, refl, sym, subst, arith, inl, inr}
use Rattle.std.specs.Prelude.{Contains, count_by}
use Rattle.std.specs.List.Sorted.{IsPermutation}
use Rattle.std.proofs.lemmas.Bool.{cases_Bool}
use Rattle.std.proofs.lemmas.List.Elements.{Contains-append_right}
use Rattle.std.proofs.lemmas.List.Sorted.{IsPermutation-refl, IsPermutation-sym, IsPermutation-trans, IsPermutation-cons, IsPermutation-remove, Contains-permutation, sum_by-IsPermutation}
use Rattle.std.proofs.lemmas.List.Sums.{sum_by-cons}
use Rattle.table_terms.specs.Laws.{IsLaw, AllApart}
use Rattle.table_numbered.proofs.Apart.{first_or_other, none_counts, one_counts, not_true}

module _ {V : Type 0} (same : V → V → Bool) (hash : V → ℕ) (law : IsLaw same hash) where
  -- one more element in front, which is the same as none
  pub apart_first : (v : V) (vs : List V) → AllApart same vs → ((w : V) → Contains vs w → same v w ≡ false) → AllApart same (v ∷ vs)
  apart_first v vs apart none x = let one = sum_by-cons (λ y. cond (same x y) 1 0) v vs in elim (cases_Bool (same x v)) [
    | inl like ↦ rw (one, like) (let none_like = none_counts (same x) vs (λ w among. not_true (λ (u : V). u) same hash law x w v like (none w among)) in omega (arith, none_like))
    | inr unlike ↦ rw (one, unlike) (let few = apart x in omega (arith, few))
  ]

  apart_rest : (v : V) (vs : List V) → AllApart same (v ∷ vs) → AllApart same vs
  apart_rest v vs apart x = omega (arith, apart x, sum_by-cons (λ y. cond (same x y) 1 0) v vs)

  -- the first element is none of the others
  first_once : (v w : V) (vs : List V) → AllApart same (v ∷ vs) → Contains vs w → v ≡ w → ⊥
  first_once v w vs apart among is =
      let counted : count_by (same v) (v ∷ vs) ≡ 1 + count_by (same v) vs = rw (sum_by-cons (λ y. cond (same v y) 1 0) v vs, law.reflexive v) refl in
      let some = one_counts (same v) vs w among (subst (λ (u : V). same v u ≡ true) is (law.reflexive v)) in absurd (omega (arith, apart v, counted, some))

  apart_permuted : (xs ys : List V) → IsPermutation xs ys → AllApart same xs → AllApart same ys
  apart_permuted xs ys moved apart x = omega (arith, apart x, sum_by-IsPermutation (λ y. cond (same x y) 1 0) xs ys moved)

  -- an element of a list that is not the first one is one of the others
  one_of_others : (x v : V) (xs : List V) → Contains (x ∷ xs) v → (x ≡ v → ⊥) → Contains xs v
  one_of_others x v xs among other = elim (first_or_other x xs v among) [
    | inl is ↦ absurd (other is)
    | inr rest ↦ rest
  ]

  pub same_members : (xs ys : List V) → AllApart same xs → AllApart same ys → ((v : V) → Contains xs v → Contains ys v) → ((v : V) → Contains ys v → Contains xs v) → IsPermutation xs ys
  same_members [] [] one other there back = IsPermutation-refl []
  same_members [] (y ∷ ys) one other there back = absurd (let at = back y (0, omega arith, refl) in let lt = at.1 in omega (arith, lt))
  same_members (x ∷ xs) ys one other there back =
      let at = there x (0, omega arith, refl) in
      let rest : List V = remove ys at.0 in
      let moved : IsPermutation ys (x ∷ rest) = IsPermutation-remove ys at.0 x at.1 (sym at.2) in
      let apart : AllApart same (x ∷ rest) = apart_permuted ys (x ∷ rest) moved other in
      IsPermutation-trans (x ∷ xs) (x ∷ rest) ys
      (IsPermutation-cons x xs rest (same_members xs rest (apart_rest x xs one) (apart_rest x rest apart)
      (λ v among. one_of_others x v rest (Contains-permutation ys (x ∷ rest) v moved (there v (Contains-append_right (x ∷ []) xs v among))) (λ is. first_once x v xs one among is))
      (λ v among. one_of_others x v xs (back v (Contains-permutation (x ∷ rest) ys v (IsPermutation-sym ys (x ∷ rest) moved) (Contains-append_right (x ∷ []) rest v among))) (λ is. first_once x v rest apart among is))))
      (IsPermutation-sym ys (x ∷ rest) moved)
