-- How many numbers there are below another one.
use Rattle.std.proofs.Common.{◌≡◌, ℕ, zero, suc, ◌+◌, ◌-◌, ◌%◌, ◌<◌, ◌≤◌, cond, Bool, true, false, List, [], ◌∷◌, length, refl, ap, sym, subst, ◌∙◌, arith, inl, inr, eqb, eqb-true}
use Rattle.std.specs.Prelude.{slice_index_or, Contains, count_by}
use Rattle.core.specs.List.{list_any, IsDistinct, AllByRecursion}
use Rattle.std.proofs.lemmas.Bool.{cases_lt, cases_Bool, false≢true}
use Rattle.std.proofs.lemmas.List.Sums.{sum_by-cons}
use Rattle.std.proofs.lemmas.Map.Steps.{length-le_from_distinct_below}
use Rattle.std.proofs.Math.Nat.{mod-eq_of_lt, mod-eq-sub-mod}
use Rattle.table_numbered.proofs.Apart.{one_counts}

last_below : (n : ℕ) → n < suc n
last_below n = omega arith

still_below : (i n : ℕ) → i < n → i < suc n
still_below i n lt = omega (arith, lt)

unequal : (a b : ℕ) → (a ≡ b → ⊥) → eqb a b ≡ false
unequal a b apart = elim (cases_Bool (eqb a b)) [
  | inl is ↦ absurd (apart (eqb-true a b is))
  | inr differs ↦ differs
]

-- a number for each of the first n
abbrev picks : (n : ℕ) → ((i : ℕ) → i < n → ℕ) → List ℕ
picks zero pick = []
picks (suc n) pick = pick n (last_below n) ∷ picks n (λ i lt. pick i (still_below i n lt))

picks_long : (n : ℕ) (pick : (i : ℕ) → i < n → ℕ) → length (picks n pick) ≡ n
picks_long zero pick = refl
picks_long (suc n) pick = ap suc (picks_long n (λ i lt. pick i (still_below i n lt)))

picked : (n : ℕ) (pick : (i : ℕ) → i < n → ℕ) (q : ℕ) → list_any (eqb q) (picks n pick) ≡ true → (i : ℕ) × (lt : i < n) × (q ≡ pick i lt)
picked zero pick q any = absurd (false≢true any)
picked (suc n) pick q any = elim (cases_Bool (eqb q (pick n (last_below n)))) [
  | inl is ↦ (n, last_below n, eqb-true q (pick n (last_below n)) is)
  | inr differs ↦ (let inner = picked n (λ i lt. pick i (still_below i n lt)) q (rw differs at any) in (inner.0, still_below inner.0 n inner.1, inner.2))
]

all_picks : (P : ℕ → Type 0) (n : ℕ) (pick : (i : ℕ) → i < n → ℕ) → ((i : ℕ) (lt : i < n) → P (pick i lt)) → AllByRecursion P (picks n pick)
all_picks P zero pick all = tt
all_picks P (suc n) pick all = (all n (last_below n), all_picks P n (λ i lt. pick i (still_below i n lt)) (λ i lt. all i (still_below i n lt)))

picks_apart : (n : ℕ) (pick : (i : ℕ) → i < n → ℕ) → ((i j : ℕ) (a : i < n) (b : j < n) → pick i a ≡ pick j b → i ≡ j) → IsDistinct eqb (picks n pick)
unfolding IsDistinct
picks_apart zero pick one = tt
picks_apart (suc n) pick one = (
  all_picks (λ y. eqb (pick n (last_below n)) y ≡ false) n (λ i lt. pick i (still_below i n lt)) (λ i lt. unequal (pick n (last_below n)) (pick i (still_below i n lt))
      (λ is. let both = one n i (last_below n) (still_below i n lt) is in omega (arith, both, lt))),
  picks_apart n (λ i lt. pick i (still_below i n lt)) (λ i j a b is. one i j (still_below i n a) (still_below j n b) is),
)

-- who has a number below m for each of n things, and for no two the same, has at most m things
pub few_picks : (m n : ℕ) (pick : (i : ℕ) → i < n → ℕ) → ((i : ℕ) (lt : i < n) → pick i lt < m) → ((i j : ℕ) (a : i < n) (b : j < n) → pick i a ≡ pick j b → i ≡ j) → n ≤ m
few_picks m n pick below one = let few = length-le_from_distinct_below (picks n pick) m (picks_apart n pick one)
    (λ q any. let at = picked n pick q any in let lt = below at.0 at.1 in omega (arith, at.2, lt)) in omega (arith, few, picks_long n pick)

-- a whole turn comes to no bucket twice
pub turn_apart : (n f i j : ℕ) → f < n → i < n → j < n → (f + i) % n ≡ (f + j) % n → i ≡ j
turn_apart n f i j first one other is = elim (cases_lt (f + i) n) [
  | inl here ↦ elim (cases_lt (f + j) n) [
    | inl there ↦ omega (arith, sym (mod-eq_of_lt here) ∙ (is ∙ mod-eq_of_lt there))
    | inr there ↦ omega (arith, first, one, other, there, sym (mod-eq_of_lt here) ∙ (is ∙ wrapped n (f + j) there (omega (arith, first, other))))
  ]
  | inr here ↦ elim (cases_lt (f + j) n) [
    | inl there ↦ omega (arith, first, one, other, here, sym (wrapped n (f + i) here (omega (arith, first, one))) ∙ (is ∙ mod-eq_of_lt there))
    | inr there ↦ omega (arith, here, there, sym (wrapped n (f + i) here (omega (arith, first, one))) ∙ (is ∙ wrapped n (f + j) there (omega (arith, first, other))))
  ]
]
  where
    wrapped : (n a : ℕ) → n ≤ a → a - n < n → a % n ≡ a - n
    wrapped n a le lt = mod-eq-sub-mod le ∙ mod-eq_of_lt lt

module _ {X : Type 0} where
  -- the element at an index
  pub element : (xs : List X) (i : ℕ) → i < length xs → (x : X) × (slice_index_or xs i x ≡ x)
  element [] i lt = absurd (omega (arith, lt))
  element (x ∷ xs) zero lt = (x, refl)
  element (x ∷ xs) (suc i) lt = element xs i (omega (arith, lt))

  -- what is found at an index does not depend on what would stand behind the end
  pub same_at : (xs : List X) (i : ℕ) (d f : X) → i < length xs → slice_index_or xs i d ≡ slice_index_or xs i f
  same_at [] i d f lt = absurd (omega (arith, lt))
  same_at (x ∷ xs) zero d f lt = refl
  same_at (x ∷ xs) (suc i) d f lt = same_at xs i d f (omega (arith, lt))

  twice : (same : X → X → Bool) (x : X) → same x x ≡ true → (y : X) (ys : List X) → count_by (same x) (y ∷ ys) ≤ 1 → y ≡ x → Contains ys x → ⊥
  twice same x is y ys few at again = let more = one_counts (same x) ys x again is in let here : same x y ≡ true = subst (λ (z : X). same x z ≡ true) (sym at) is in
      let counted : count_by (same x) (y ∷ ys) ≡ 1 + count_by (same x) ys = rw (sum_by-cons, here) refl in omega (arith, few, counted, more)

  -- where no two elements are the same, one stands at one index
  pub one_index : (same : X → X → Bool) (x : X) → same x x ≡ true → (xs : List X) → count_by (same x) xs ≤ 1 → (i j : ℕ) → i < length xs → j < length xs → slice_index_or xs i x ≡ x → slice_index_or xs j x ≡ x → i ≡ j
  one_index same x is [] few i j one other at to = absurd (omega (arith, one))
  one_index same x is (y ∷ ys) few zero zero one other at to = refl
  one_index same x is (y ∷ ys) few zero (suc j) one other at to = absurd (twice same x is y ys few at (j, omega (arith, other), to))
  one_index same x is (y ∷ ys) few (suc i) zero one other at to = absurd (twice same x is y ys few to (i, omega (arith, one), at))
  one_index same x is (y ∷ ys) few (suc i) (suc j) one other at to = ap suc (one_index same x is ys (omega (arith, few, sum_by-cons (λ z. cond (same x z) 1 0) y ys)) i j (omega (arith, one)) (omega (arith, other)) at to)
