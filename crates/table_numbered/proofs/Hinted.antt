-- What hints say: a word that names nothing, one that a number was added to, and a row of them.
use Rattle.std.proofs.Common.{◌≡◌, ◌≢◌, ℕ, Bool, ◌*◌, ◌/◌, ◌%◌, ◌^◌, ◌<◌, ◌⊎◌, ◌++◌, List, [], ◌∷◌, length, inl, inr, ap, sym, subst, ◌∙◌, arith, length-append}
use Rattle.std.specs.Int.{bit_at, w64}
use Rattle.std.specs.Int.Bits.{bit_or, or_zero_r}
use Rattle.std.proofs.lemmas.Nat.{or_shr, one_shl, pow_below}
use Rattle.std.proofs.lemmas.Nat.Bits.{bit_at-zero, bit_at_set_same, bit_at_set_other, bit_at_cat_low}
use Rattle.std.proofs.lemmas.List.{get_or_append_left, get_or_push}
use mathlib.Core.List.{IsPrefix}
use mathlib.Core.Logic.{dite}
use native.Mathlib.Decide.{ℕ_discrete}
use Rattle.logbook.specs.Pages.{Book, Named, Grows}
use Rattle.table_numbered.specs.declared.event.Numbered.{Numbered}
use Rattle.table_numbered.specs.Words.{IsNumber, numbered, alike, marked}
use Rattle.table_numbered.specs.History.{History, IsReached}
use Rattle.table_numbered.specs.Generations.{SetView}
use Rattle.table_numbered.specs.Walking.{IsTaken}
use Rattle.table_numbered.specs.Hints.{Names, NamesTaken, IsHint, AreHints}
use Rattle.table_numbered.proofs.Histories.{stands_on}

module _ {V : Type 0} where
  -- a number that is taken is taken for good
  pub taken_on : (k : ℕ) (l m : History (Numbered V)) → IsPrefix l m → IsTaken l k → IsTaken m k
  taken_on k l m on taken = (taken.0, (taken.1.0, stands_on l m taken.1.0 (numbered k taken.0) on taken.1.1))

  pub hints_grow : Grows (λ (word : ℕ) (log : History (Numbered V)). NamesTaken word log)
  hints_grow word l m on named k is = taken_on k l m on (named k is)

  -- 0 names no number
  pub nothing_named : (log : History (Numbered V)) → NamesTaken 0 log
  nothing_named log k is = absurd (omega (arith, is.1, bit_at-zero (k % 32)))

  -- each number that a word names is taken, with one that was added
  pub more_taken : (w m k : ℕ) (log : History (Numbered V)) → NamesTaken w log → ((j : ℕ) → Names m j → (j ≡ k) ⊎ Names w j) → IsTaken log k → NamesTaken m log
  more_taken w m k log are named taken j is = elim (named j is) [
    | inl here ↦ subst (λ (i : ℕ). IsTaken log i) (sym here) taken
    | inr other ↦ are j other
  ]

  -- the number of an entry is one that a word has room for
  pub taken_small : (same : V → V → Bool) (hash : V → ℕ) (k : ℕ) (log : History (Numbered V)) → IsReached (alike same) (marked hash) log → IsTaken log k → IsNumber k
  taken_small same hash k log r taken = r.1.number taken.1.0 (numbered k taken.0) taken.1.1

-- the bit of k added to w
module _ (w k : ℕ) where
  abbrev bit : ℕ
  bit = 1 * 2 ^ (k % 32) % 2 ^ 64

  low : k % 32 < 32
  low = omega arith

  small : bit < 2 ^ 32
  small = subst (λ (b : ℕ). b < 2 ^ 32) (sym (one_shl (k % 32) 64 (omega (arith, low)))) (pow_below (k % 32) 32 low)

  pub same_group : bit_or w bit / 2 ^ 32 ≡ w / 2 ^ 32
  same_group = let none : bit / 2 ^ 32 ≡ 0 = omega (arith, small) in or_shr w bit 32 ∙ (ap (bit_or (w / 2 ^ 32)) none ∙ or_zero_r (w / 2 ^ 32))

  module _ (group : w / 2 ^ 32 ≡ k / 32) where
    pub added_named : Names (bit_or w bit) k
    added_named = (same_group ∙ group, bit_at_set_same w64 w (k % 32) (omega (arith, low)))

    pub added_others : (j : ℕ) → Names (bit_or w bit) j → (j ≡ k) ⊎ Names w j
    added_others j is = dite (ℕ_discrete (j % 32) (k % 32))
        (λ (e : j % 32 ≡ k % 32). let g : j / 32 ≡ k / 32 = sym is.0 ∙ (same_group ∙ group) in inl (omega (arith, e, g)))
        (λ (ne : j % 32 ≢ k % 32). inr (sym same_group ∙ is.0, sym (bit_at_set_other w64 w (k % 32) (omega (arith, low)) (j % 32) ne) ∙ is.1))

-- a group's word with no bit names no number
pub group_names_none : (g j : ℕ) → Names (g * 2 ^ 32) j → ⊥
group_names_none g j is = let none : bit_at (g * 2 ^ 32) (j % 32) ≡ 0 = ap (λ (n : ℕ). bit_at n (j % 32)) (omega arith) ∙ (bit_at_cat_low g 32 0 (j % 32) (omega arith) ∙ bit_at-zero (j % 32)) in omega (arith, none, is.1)

-- one more hint in a row of them
pub hints_push : (b : Book) (ws : List Named) (w : Named) → AreHints b ws → IsHint b w → AreHints b (ws ++ w ∷ [])
hints_push b ws w are is k d lt = dite (ℕ_discrete k (length ws))
    (λ (here : k ≡ length ws). subst (IsHint b) (sym (get_or_push ws w d k (sym here))) is)
    (λ (ne : k ≢ length ws). let less : k < length ws = omega (arith, lt, ne, length-append ws (w ∷ [])) in
    subst (IsHint b) (sym (get_or_append_left ws (w ∷ []) d k less)) (are k d less))

-- a hint of the book that is known
pub hint_of_book : (t : SetView) (b : Book) (w : Named) → b ≡ t.book → IsHint t.book w → IsHint b w
hint_of_book t b w is hint = (hint.0, hint.1 ∙ sym is)
