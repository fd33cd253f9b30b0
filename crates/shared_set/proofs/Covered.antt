-- Elements with different numbers that are all in one list: what else is in it, and how many they can be.
use Rattle.std.proofs.Common.{◌≡◌, cond, ℕ, ◌+◌, ◌<◌, ◌≤◌, Bool, List, [], ◌∷◌, ◌++◌, append-nil, length, length-append, map, remove, refl, sym, subst, ap, ◌∙◌, arith, inl, inr, eq-eqb}
use Rattle.std.specs.Prelude.{Contains, count_by, ◌==◌}
use Rattle.std.specs.List.{range_with_len}
use Rattle.std.specs.List.Sorted.{IsPermutation}
use Rattle.std.proofs.lemmas.List.{length-map}
use Rattle.std.proofs.lemmas.List.Elements.{Contains-append_right}
use Rattle.std.proofs.lemmas.List.FromFn.{length-range_with_len, get_or-range_with_len}
use Rattle.std.proofs.lemmas.List.Sorted.{IsPermutation-refl, IsPermutation-sym, IsPermutation-trans, IsPermutation-cons, IsPermutation-remove, Contains-permutation, length_permutation}
use Rattle.std.proofs.lemmas.List.Sums.{sum_by-cons}
use Rattle.table_numbered.proofs.Apart.{first_or_other, one_counts}

module _ {X : Type 0} (number : X → ℕ) where
  -- no two of the elements have one number
  abbrev pub Differ : List X → Type 0
  Differ xs = (n : ℕ) → count_by (λ x. n == number x) xs ≤ 1

  differ_rest : (x : X) (xs : List X) → Differ (x ∷ xs) → Differ xs
  differ_rest x xs apart n = omega (arith, apart n, sum_by-cons (λ y. cond (n == number y) 1 0) x xs)

  -- the first element is none of the others
  first_alone : (x v : X) (xs : List X) → Differ (x ∷ xs) → Contains xs v → x ≡ v → ⊥
  first_alone x v xs apart among is =
      let n = number x in
      let counted : count_by (λ y. n == number y) (x ∷ xs) ≡ 1 + count_by (λ y. n == number y) xs = rw (sum_by-cons (λ y. cond (n == number y) 1 0) x xs, eq-eqb n n refl) refl in
      let some = one_counts (λ y. n == number y) xs v among (eq-eqb n (number v) (ap number is)) in absurd (omega (arith, apart n, counted, some))

  -- one that is in the list x ∷ ys, and isn't x, is in ys
  in_others : (x v : X) (ys : List X) → Contains (x ∷ ys) v → (x ≡ v → ⊥) → Contains ys v
  in_others x v ys among other = elim (first_or_other x ys v among) [
    | inl is ↦ absurd (other is)
    | inr rest ↦ rest
  ]

  -- where each of them is in a list, that list has each of them once, and a rest
  pub covered : (xs ys : List X) → Differ xs → ((v : X) → Contains xs v → Contains ys v) → (rest : List X) × IsPermutation (xs ++ rest) ys
  covered [] ys apart there = (ys, IsPermutation-refl ys)
  covered (x ∷ xs) ys apart there =
      let at = there x (0, omega arith, refl) in
      let others : List X = remove ys at.0 in
      let moved : IsPermutation ys (x ∷ others) = IsPermutation-remove ys at.0 x at.1 (sym at.2) in
      let more = covered xs others (differ_rest x xs apart)
      (λ v among. in_others x v others (Contains-permutation ys (x ∷ others) v moved (there v (Contains-append_right (x ∷ []) xs v among))) (first_alone x v xs apart among)) in
      (more.0, IsPermutation-trans (x ∷ xs ++ more.0) (x ∷ others) ys (IsPermutation-cons x (xs ++ more.0) others more.1) (IsPermutation-sym ys (x ∷ others) moved))

module _ {X Y : Type 0} (f : X → Y) where
  -- as many elements have an image that passes as images pass
  pub counts_of_images : (passes : Y → Bool) (xs : List X) → count_by passes (map f xs) ≡ count_by (λ x. passes (f x)) xs
  counts_of_images passes [] = refl
  counts_of_images passes (x ∷ xs) = rw (sum_by-cons (λ y. cond (passes y) 1 0) (f x) (map f xs), sum_by-cons (λ y. cond (passes (f y)) 1 0) x xs, counts_of_images passes xs) refl

  -- the image of an element is one of the images
  pub image_among : (xs : List X) (x : X) → Contains xs x → Contains (map f xs) (f x)
  image_among [] x (k, within, is) = absurd (omega arith)
  image_among (y ∷ ys) x among = elim (first_or_other y ys x among) [
    | inl is ↦ (0, omega arith, ap f is)
    | inr rest ↦ Contains-append_right (f y ∷ []) (map f ys) (f x) (image_among ys x rest)
  ]

  -- an image is that of an element
  pub image_of : (xs : List X) (y : Y) → Contains (map f xs) y → (x : X) × Contains xs x × (f x ≡ y)
  image_of [] y (k, within, is) = absurd (omega arith)
  image_of (x ∷ xs) y among = elim (first_or_other (f x) (map f xs) y among) [
    | inl is ↦ (x, (0, omega arith, refl), is)
    | inr rest ↦ (let it = image_of xs y rest in (it.0, Contains-append_right (x ∷ []) xs it.0 it.1, it.2))
  ]

module _ {X : Type 0} (number : X → ℕ) where
  -- with different numbers below n there are at most n
  pub few_below : (n : ℕ) (xs : List X) → Differ number xs → ((x : X) → Contains xs x → number x < n) → length xs ≤ n
  few_below n xs apart within =
      let numbers : List ℕ = map number xs in let all : List ℕ = range_with_len 0 n in
      let there : (k : ℕ) → Contains numbers k → Contains all k = λ k among. let it = image_of number xs k among in let below : k < n = subst (λ (m : ℕ). m < n) it.2 (within it.0 it.1) in
      (k, rw (length-range_with_len 0 n) below, get_or-range_with_len 0 n k k below ∙ omega arith) in
      let r = covered (λ (k : ℕ). k) numbers all (λ k. rw (counts_of_images number (λ m. k == m) xs) (apart k)) there in
      omega (arith, length_permutation (numbers ++ r.0) all r.1, length-append numbers r.0, length-map xs number, length-range_with_len 0 n)

module _ {V : Type 0} where
  -- where as many come out as were placed, no others do
  pub no_others : (placed others out : List V) → IsPermutation (placed ++ others) out → length out ≡ length placed → IsPermutation placed out
  no_others placed [] out moved as_many = subst (λ (vs : List V). IsPermutation vs out) (append-nil placed) moved
  no_others placed (v ∷ vs) out moved as_many = absurd (let l = length_permutation (placed ++ v ∷ vs) out moved in let m = length-append placed (v ∷ vs) in omega (arith, l, m, as_many))

  -- where not as many come out, others do
  pub some_others : (placed others out : List V) → IsPermutation (placed ++ others) out → (length out ≡ length placed → ⊥) → 0 < length others
  some_others placed [] out moved other = absurd (other (let l = length_permutation (placed ++ []) out moved in let m = length-append placed [] in omega (arith, l, m)))
  some_others placed (v ∷ vs) out moved other = omega arith
