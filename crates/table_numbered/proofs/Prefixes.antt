-- What begins a list that one element was put behind.
use Rattle.std.proofs.Common.{◌≡◌, zero, suc, ◌++◌, ◌⊎◌, List, [], ◌∷◌, length, refl, ap, sym, subst, arith, inl, inr, length-append}
use Rattle.std.specs.Prelude.{Contains}
use Rattle.std.proofs.lemmas.List.Elements.{Contains-push, Contains-append_left}
use mathlib.Core.List.{IsPrefix}

module _ {X : Type 0} where
  abbrev or_head : X → List X → X
  or_head d [] = d
  or_head d (x ∷ xs) = x

  abbrev or_tail : List X → List X
  or_tail [] = []
  or_tail (x ∷ xs) = xs

  -- the last of the elements that begin a list is one of its elements
  pub prefix_has : (before l : List X) (x : X) → IsPrefix (before ++ x ∷ []) l → Contains l x
  prefix_has before l x on = subst (λ (m : List X). Contains m x) on.1 (Contains-append_left (before ++ x ∷ []) on.0 x (Contains-push before x))

  -- what begins with one more element begins the list, or is all of it
  pub prefix_push : (before l : List X) (x y : X) → IsPrefix (before ++ x ∷ []) (l ++ y ∷ []) → IsPrefix (before ++ x ∷ []) l ⊎ ((before ≡ l) × (x ≡ y))
  prefix_push [] [] x y on = inr (refl, ap (or_head x) on.1)
  prefix_push [] (z ∷ zs) x y on = inl (zs, ap (λ (w : X). w ∷ zs) (ap (or_head x) on.1))
  prefix_push (b ∷ bs) [] x y on = absurd (let is = ap length on.1 in
      omega (arith, is, length-append (bs ++ x ∷ []) on.0, length-append bs (x ∷ [])))
  prefix_push (b ∷ bs) (z ∷ zs) x y on = elim (prefix_push bs zs x y (on.0, ap or_tail on.1)) [
    | inl inner ↦ inl (inner.0, λ i. ap (or_head b) on.1 i ∷ inner.1 i)
    | inr is ↦ inr ((λ i. ap (or_head b) on.1 i ∷ is.0 i), is.1)
  ]

  -- each element ends some of what begins the list
  pub ends_at : (l : List X) (x : X) → Contains l x → (before : List X) × IsPrefix (before ++ x ∷ []) l
  ends_at [] x (k, lt, is) = absurd (omega arith)
  ends_at (y ∷ ys) x (zero, lt, is) = ([], (ys, λ i. sym is i ∷ ys))
  ends_at (y ∷ ys) x (suc k, lt, is) = let inner = ends_at ys x (k, omega arith, is) in (y ∷ inner.0, (inner.1.0, λ i. y ∷ inner.1.1 i))
