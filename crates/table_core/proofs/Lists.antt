-- Facts on lists.
use Rattle.std.proofs.Common.{ℕ, suc, zero, ◌≡◌, ◌+◌, ◌≤◌, ◌++◌, ◌⊎◌, inl, inr, List, [], ◌∷◌, Bool, true, false, refl, Some, length, ap, arith, take}
use Rattle.std.specs.Prelude.{slice_set, map}
use Rattle.std.specs.List.{slice_get, list_any, flat_map}
use Rattle.table_core.specs.Bound.{one_if}
use Rattle.table_core.proofs.Weights.{weigh}
use Rattle.std.proofs.lemmas.Bool.{or_parts}

pub weigh-append : {X : Type 0} (f : X → ℕ) (xs ys : List X) → weigh f (xs ++ ys) ≡ weigh f xs + weigh f ys
weigh-append f [] ys = omega arith
weigh-append f (x ∷ xs) ys = omega (arith, weigh-append f xs ys)

pub weigh-map : {X Y : Type 0} (f : Y → ℕ) (g : X → Y) (xs : List X) → weigh f (map g xs) ≡ weigh (λ x. f (g x)) xs
weigh-map f g [] = refl
weigh-map f g (x ∷ xs) = omega (arith, weigh-map f g xs)

pub weigh-set : {X : Type 0} (f : X → ℕ) (xs : List X) (i : ℕ) (x y : X) → slice_get xs i ≡ Some x → weigh f (slice_set xs i y) + f x ≡ weigh f xs + f y
weigh-set f [] i x y h = absurd (cc)
weigh-set f (z ∷ xs) zero x y h = let e : z ≡ x = cc in omega (arith, ap f e)
weigh-set f (z ∷ xs) (suc i) x y h = omega (arith, weigh-set f xs i x y h)

pub weigh-get : {X : Type 0} (f : X → ℕ) (xs : List X) (i : ℕ) (x : X) → slice_get xs i ≡ Some x → f x ≤ weigh f xs
weigh-get f [] i x h = absurd (cc)
weigh-get f (z ∷ xs) zero x h = let e : z ≡ x = cc in omega (arith, ap f e)
weigh-get f (z ∷ xs) (suc i) x h = omega (arith, weigh-get f xs i x h)

-- what an element of a list is after a write
pub get-set : {X : Type 0} (xs : List X) (i j : ℕ) (x y z : X) → slice_get xs i ≡ Some x → slice_get (slice_set xs i y) j ≡ Some z → ((j ≡ i) × (z ≡ y)) ⊎ ((i ≡ j → ⊥) × (slice_get xs j ≡ Some z))
get-set [] i j x y z h k = absurd (cc)
get-set (u ∷ xs) zero zero x y z h k = inl (refl, cc)
get-set (u ∷ xs) zero (suc j) x y z h k = inr ((λ e. absurd (omega arith)), k)
get-set (u ∷ xs) (suc i) zero x y z h k = inr ((λ e. absurd (omega arith)), k)
get-set (u ∷ xs) (suc i) (suc j) x y z h k = elim (get-set xs i j x y z h k) [
  | inl p ↦ inl (ap suc p.0, p.1)
  | inr p ↦ inr ((λ e. p.0 (omega arith)), p.1)
]

pub get-set_same : {X : Type 0} (xs : List X) (i : ℕ) (x y : X) → slice_get xs i ≡ Some x → slice_get (slice_set xs i y) i ≡ Some y
get-set_same [] i x y h = absurd (cc)
get-set_same (u ∷ xs) zero x y h = refl
get-set_same (u ∷ xs) (suc i) x y h = get-set_same xs i x y h

pub get-set_other : {X : Type 0} (xs : List X) (i j : ℕ) (y : X) → (i ≡ j → ⊥) → slice_get (slice_set xs i y) j ≡ slice_get xs j
get-set_other [] i j y n = refl
get-set_other (u ∷ xs) zero zero y n = absurd (n refl)
get-set_other (u ∷ xs) zero (suc j) y n = refl
get-set_other (u ∷ xs) (suc i) zero y n = refl
get-set_other (u ∷ xs) (suc i) (suc j) y n = get-set_other xs i j y (λ e. n (ap suc e))

pub get-push : {X : Type 0} (xs : List X) (y z : X) (j : ℕ) → slice_get (xs ++ y ∷ []) j ≡ Some z → ((j ≡ length xs) × (z ≡ y)) ⊎ (slice_get xs j ≡ Some z)
get-push [] y z zero k = inl (refl, cc)
get-push [] y z (suc j) k = absurd (cc)
get-push (x ∷ xs) y z zero k = inr k
get-push (x ∷ xs) y z (suc j) k = elim (get-push xs y z j k) [ inl p ↦ inl (ap suc p.0, p.1) | inr p ↦ inr p ]

pub get-push_before : {X : Type 0} (xs ys : List X) (j : ℕ) (z : X) → slice_get xs j ≡ Some z → slice_get (xs ++ ys) j ≡ Some z
get-push_before [] ys j z h = absurd (cc)
get-push_before (x ∷ xs) ys zero z h = h
get-push_before (x ∷ xs) ys (suc j) z h = get-push_before xs ys j z h

pub get-push_last : {X : Type 0} (xs : List X) (y : X) → slice_get (xs ++ y ∷ []) (length xs) ≡ Some y
get-push_last [] y = refl
get-push_last (x ∷ xs) y = get-push_last xs y

pub none_counted : {X : Type 0} (p : X → Bool) (xs : List X) → list_any p xs ≡ false → weigh (λ x. one_if (p x)) xs ≡ 0
none_counted p [] h = refl
none_counted p (x ∷ xs) h = let k : (p x ≡ false) × (list_any p xs ≡ false) = or_parts _ _ h in omega (arith, ap one_if k.0, none_counted p xs k.1)

pub weigh-plus : {X : Type 0} (f g k : X → ℕ) → ((x : X) → f x ≡ g x + k x) → (xs : List X) → weigh f xs ≡ weigh g xs + weigh k xs
weigh-plus f g k e [] = refl
weigh-plus f g k e (x ∷ xs) = omega (arith, e x, weigh-plus f g k e xs)

pub weigh-flat_map : {X : Type 0} (h : ℕ → ℕ) (f : X → List ℕ) (xs : List X) → weigh h (flat_map f xs) ≡ weigh (λ x. weigh h (f x)) xs
weigh-flat_map h f [] = refl
weigh-flat_map h f (x ∷ xs) = omega (arith, weigh-append h (f x) (flat_map f xs), weigh-flat_map h f xs)

pub weigh-ones : {X : Type 0} (xs : List X) → weigh (λ x. 1) xs ≡ length xs
weigh-ones [] = refl
weigh-ones (x ∷ xs) = omega (arith, weigh-ones xs)

pub false_of : (b : Bool) → one_if b ≡ 0 → b ≡ false
false_of false h = refl
false_of true h = absurd (omega arith)

pub zero-each : {X : Type 0} (p : X → Bool) (xs : List X) (i : ℕ) (x : X) → weigh (λ x. one_if (p x)) xs ≡ 0 → slice_get xs i ≡ Some x → p x ≡ false
zero-each p xs i x z h = let le : one_if (p x) ≤ weigh (λ x. one_if (p x)) xs = weigh-get (λ x. one_if (p x)) xs i x h in false_of (p x) (omega arith)

pub length-push : {X : Type 0} (xs : List X) (y : X) → length (xs ++ y ∷ []) ≡ suc (length xs)
length-push [] y = refl
length-push (x ∷ xs) y = ap suc (length-push xs y)

pub weigh-take_more : {X : Type 0} (f : X → ℕ) (xs : List X) (i : ℕ) (x : X) → slice_get xs i ≡ Some x → weigh f (take (suc i) xs) ≡ weigh f (take i xs) + f x
weigh-take_more f [] i x h = absurd (cc)
weigh-take_more f (y ∷ xs) zero x h = let e : y ≡ x = cc in omega (arith, ap f e)
weigh-take_more f (y ∷ xs) (suc i) x h = omega (arith, weigh-take_more f xs i x h)

pub weigh-take : {X : Type 0} (f : X → ℕ) (xs : List X) (i : ℕ) → weigh f (take i xs) ≤ weigh f xs
weigh-take f [] zero = omega arith
weigh-take f [] (suc i) = omega arith
weigh-take f (y ∷ xs) zero = omega arith
weigh-take f (y ∷ xs) (suc i) = omega (arith, weigh-take f xs i)
