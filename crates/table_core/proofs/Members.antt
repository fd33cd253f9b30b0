-- Members of lists.
use Rattle.std.proofs.Common.{eqb-true, ℕ, suc, zero, ◌≡◌, ◌+◌, ◌<◌, ◌≤◌, ◌++◌, ◌⊎◌, inl, inr, List, [], ◌∷◌, Bool, true, false, refl, length, ap, arith}
use Rattle.std.specs.Prelude.{◌==◌, if◌then◌else◌, Contains, slice_index_or}
use Rattle.table_core.proofs.Weights.{weigh, count_of}
use Rattle.table_core.specs.Bound.{one_if}

abbrev pub Is : {X : Type 0} → X → List X → Type 0
Is x [] = ⊥
Is x (y ∷ ys) = (y ≡ x) ⊎ Is x ys

pub is_in : {X : Type 0} (xs : List X) (x : X) (k : ℕ) → k < length xs → slice_index_or xs k x ≡ x → Is x xs
is_in [] x k lt e = absurd (omega arith)
is_in (y ∷ ys) x zero lt e = inl e
is_in (y ∷ ys) x (suc k) lt e = inr (is_in ys x k (omega arith) e)

pub in_of : {X : Type 0} (xs : List X) (x : X) → Contains xs x → Is x xs
in_of xs x c = is_in xs x c.0 c.1 c.2

pub contains_of : {X : Type 0} (xs : List X) (x : X) → Is x xs → Contains xs x
contains_of [] x h = absurd h
contains_of (y ∷ ys) x (inl e) = (0, omega arith, e)
contains_of (y ∷ ys) x (inr h) = let c = contains_of ys x h in (suc c.0, omega (arith, c.1), c.2)

pub is_left : {X : Type 0} (x : X) (xs ys : List X) → Is x xs → Is x (xs ++ ys)
is_left x [] ys h = absurd h
is_left x (z ∷ xs) ys (inl e) = inl e
is_left x (z ∷ xs) ys (inr h) = inr (is_left x xs ys h)

pub is_right : {X : Type 0} (x : X) (xs ys : List X) → Is x ys → Is x (xs ++ ys)
is_right x [] ys h = h
is_right x (z ∷ xs) ys h = inr (is_right x xs ys h)

pub is_either : {X : Type 0} (x : X) (xs ys : List X) → Is x (xs ++ ys) → Is x xs ⊎ Is x ys
is_either x [] ys h = inr h
is_either x (z ∷ xs) ys (inl e) = inl (inl e)
is_either x (z ∷ xs) ys (inr h) = elim (is_either x xs ys h) [ inl k ↦ inl (inr k) | inr k ↦ inr k ]

pub counted_at : (v x : ℕ) (xs : List ℕ) (b : Bool) → (x == v) ≡ b → 1 ≤ (if b then 1 else 0) + count_of v xs → (1 ≤ count_of v xs → Is v xs) → (x ≡ v) ⊎ Is v xs
counted_at v x xs true e h f = inl (eqb-true x v e)
counted_at v x xs false e h f = inr (f (omega arith))

-- a value that a list has once or more is in it
pub counted : (v : ℕ) (xs : List ℕ) → 1 ≤ count_of v xs → Is v xs
counted v [] h = absurd (omega arith)
counted v (x ∷ xs) h = counted_at v x xs _ refl h (counted v xs)

-- a value in a list weighs no more than the list
pub is_weighed : (h : ℕ → ℕ) (v : ℕ) (xs : List ℕ) → Is v xs → h v ≤ weigh h xs
is_weighed h v [] i = absurd i
is_weighed h v (x ∷ xs) (inl e) = omega (arith, ap h e)
is_weighed h v (x ∷ xs) (inr i) = omega (arith, is_weighed h v xs i)

pub one_of_true : (b : Bool) → one_if b ≤ 0 → b ≡ false
one_of_true true h = absurd (omega arith)
one_of_true false h = refl

-- where nothing passes, no member does
pub none_in : (p : ℕ → Bool) (m : List ℕ) → weigh (λ u. one_if (p u)) m ≡ 0 → (e : ℕ) → Contains m e → p e ≡ false
none_in p m z e c = let w : one_if (p e) ≤ weigh (λ u. one_if (p u)) m = is_weighed (λ u. one_if (p u)) e m (in_of m e c) in one_of_true (p e) (omega arith)
