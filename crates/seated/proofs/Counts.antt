-- How often a number stands in lists, and how often it was placed over all views.
use Rattle.std.proofs.Common.{◌≡◌, ◌≢◌, ℕ, zero, suc, ◌+◌, ◌<◌, ◌≤◌, List, [], ◌∷◌, ◌++◌, length, get_or, set, sym, refl, ap, ◌∙◌, arith, eq-eqb, ne_eqb, Bool, cond, ◌==◌}
use Rattle.std.proofs.lemmas.List.Sums.{sum_by-cons, sum_by-append, sum_by_push, sum_by-set, get_or-le-sum_by}
use Rattle.std.specs.Prelude.{Contains}
use Rattle.atomic_table.proofs.Lists.{set_else}
use mathlib.Core.Option.{some, some-injective, some-ne-none}
use lib.ListN.{get_elem?}
use Rattle.seated.specs.declared.seat.View.{View}
use Rattle.seated.specs.Views.{times, placings, spent_view}

abbrev if_one : Bool → ℕ
if_one b = cond b 1 0

pub times_self : (x : ℕ) → times x (x ∷ []) ≡ 1
times_self x = ap (λ b. 0 + if_one b) (eq-eqb x x refl)

pub times_other : (x y : ℕ) → y ≢ x → times x (y ∷ []) ≡ 0
times_other x y n = ap (λ b. 0 + if_one b) (ne_eqb y x n)

pub times-append : (x : ℕ) (xs ys : List ℕ) → times x (xs ++ ys) ≡ times x xs + times x ys
times-append x xs ys = sum_by-append (λ y. if_one (y == x)) xs ys

pub times_in : (xs : List ℕ) (x : ℕ) → Contains xs x → 0 < times x xs
times_in xs x c =
    let one : if_one (get_or xs c.0 x == x) ≡ 1 = ap if_one (eq-eqb (get_or xs c.0 x) x c.2) in
    let less : if_one (get_or xs c.0 x == x) ≤ times x xs = get_or-le-sum_by (λ y. if_one (y == x)) xs c.0 x c.1 in omega (arith, one, less)

module _ {A : Type 0} where
  pub at_inside : (l : List A) (i : ℕ) (a : A) → get_elem? l i ≡ some a → i < length l
  at_inside [] i a e = absurd (some-ne-none a (sym e))
  at_inside (x ∷ xs) zero a e = omega arith
  at_inside (x ∷ xs) (suc i) a e = let r = at_inside xs i a e in omega arith

  pub get_or_at : (l : List A) (i : ℕ) (a d : A) → get_elem? l i ≡ some a → get_or l i d ≡ a
  get_or_at [] i a d e = absurd (some-ne-none a (sym e))
  get_or_at (x ∷ xs) zero a d e = some-injective x a e
  get_or_at (x ∷ xs) (suc i) a d e = get_or_at xs i a d e

-- a seat's view changes from v to w
pub placings-set : (x : ℕ) (views : List View) (i : ℕ) (v w : View) → get_elem? views i ≡ some v → placings x (set views i w) + times x v.own ≡ placings x views + times x w.own
placings-set x views i v w at =
    let change = sum_by-set (λ u. times x u.own) views i w v (at_inside views i v at) in
    let is : times x (get_or views i v).own ≡ times x v.own = ap (λ u. times x u.own) (get_or_at views i v v at) in omega arith

pub placings_push : (x : ℕ) (views : List View) (w : View) → placings x (views ++ w ∷ []) ≡ placings x views + times x w.own
placings_push x views w = sum_by_push (λ u. times x u.own) views w

pub placings_at : (x : ℕ) (views : List View) (i : ℕ) (v : View) → get_elem? views i ≡ some v → times x v.own ≤ placings x views
placings_at x views i v at =
    let less = get_or-le-sum_by (λ u. times x u.own) views i v (at_inside views i v at) in
    let is : times x (get_or views i v).own ≡ times x v.own = ap (λ u. times x u.own) (get_or_at views i v v at) in omega arith

-- what two seats placed is not counted twice
pub placings_two : (x : ℕ) (views : List View) (i j : ℕ) (v w : View) → i ≢ j → get_elem? views i ≡ some v → get_elem? views j ≡ some w → times x v.own + times x w.own ≤ placings x views
placings_two x views i j v w n at there =
    let without = placings-set x views i v spent_view at in
    let still = placings_at x (set views i spent_view) j w (set_else views i j spent_view (λ e. n (sym e)) ∙ there) in omega arith

pub placings_none : (x : ℕ) (views : List View) → ((i : ℕ) (v : View) → get_elem? views i ≡ some v → times x v.own ≡ 0) → placings x views ≡ 0
placings_none x [] none = refl
placings_none x (u ∷ us) none = let sum = sum_by-cons (λ v. times x v.own) u us in let first = none 0 u refl in let r = placings_none x us (λ i v e. none (suc i) v e) in omega arith
