-- The words that a closed table gives back.
use Rattle.std.proofs.Common.{◌≡◌, ◌≢◌, ℕ, ◌+◌, ◌<◌, List, length, get_or, set, sym, ◌∙◌, subst, arith, get_or-set_same, get_or-set_other}
use Rattle.std.proofs.lemmas.List.{get_or_default}
use Rattle.std.specs.Prelude.{All, Contains}
use lib.Seq.{ext_get_or}
use lib.ListN.{get_elem?}
use mathlib.Core.Logic.{dite}
use mathlib.Core.Option.{some}
use native.Mathlib.Decide.{ℕ_discrete}
use Rattle.seated.specs.declared.seat.View.{View}
use Rattle.seated.specs.Numbers.{StandIn, KnowsEachBucket}
use Rattle.seated.specs.Rule.{Fits}
use Rattle.seated.proofs.Counts.{get_or_at, times_in}

-- the first i numbers are those of the other list
abbrev pub IsCopied : List ℕ → List ℕ → ℕ → Type 0
IsCopied xs ys i = (j : ℕ) → j < i → get_or xs j 0 ≡ get_or ys j 0

pub copies_more : (xs ys : List ℕ) (i a : ℕ) → IsCopied xs ys i → i < length xs → get_elem? ys i ≡ some a → IsCopied (set xs i a) ys (i + 1)
copies_more xs ys i a so inside at j l = dite (ℕ_discrete j i)
    (λ (e : j ≡ i). subst (λ (z : ℕ). get_or (set xs i a) z 0 ≡ get_or ys z 0) (sym e) (get_or-set_same xs i a 0 inside ∙ sym (get_or_at ys i a 0 at)))
    (λ (ne : j ≢ i). get_or-set_other xs i j a 0 ne ∙ so j (omega arith))

pub copied : (xs ys : List ℕ) (n i : ℕ) → length xs ≡ n → length ys ≡ n → n < i + 1 → IsCopied xs ys i → xs ≡ ys
copied xs ys n i ex ey whole so = ext_get_or 0 xs ys (ex ∙ sym ey) (λ j l. so j (omega arith))

module _ (n : ℕ) (words : List ℕ) (v : View) (count : length words ≡ n) (fits : Fits n words v) where
  pub known_stands : StandIn v.known words
  known_stands p x c = let f = fits.known p x c in (omega (arith, f.0), f.2)

  pub own_stands : All (Contains words) v.own
  own_stands k d inside = let x : ℕ = get_or v.own k d in
      let pair = fits.own x (times_in v.own x (k, inside, get_or_default v.own k x d inside)) in
      let f = fits.known pair.0 x pair.1 in
      (pair.0, omega (arith, f.0), get_or_default words pair.0 x 0 (omega (arith, f.0)) ∙ f.2)

-- for callers: a seat that was told Full, or was joined to one, knows that every word was set
pub every_word_set : (pairs : List (ℕ × ℕ)) (words : List ℕ) → KnowsEachBucket (length words) pairs → StandIn pairs words → All (λ x. 0 < x) words
every_word_set pairs words each stands k d inside = let known = each k inside in
    let here : get_or words k d ≡ known.0 = get_or_default words k d 0 inside ∙ (stands k known.0 known.2).1 in
    subst (λ (z : ℕ). 0 < z) (sym here) known.1
