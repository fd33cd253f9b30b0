-- Rows of buckets that are set once: how one begins, and what setting a bucket leaves.
use Rattle.std.proofs.Common.{◌≡◌, ◌≢◌, ℕ, ◌<◌, ◌++◌, true, false, List, [], ◌∷◌, length, set, Some, ap, sym, subst, ◌∙◌, arith, length-set, inl, inr}
use Rattle.std.specs.Prelude.{replicate}
use Rattle.std.proofs.lemmas.List.{get_or-set_same, get_or-set_other, get_or-replicate, length-replicate}
use mathlib.Core.Logic.{dite}
use native.Mathlib.Decide.{ℕ_discrete}
use Rattle.logbook.specs.Pages.{Cell, cell}
use Rattle.table_numbered.specs.declared.event.Event.{Event}
use Rattle.table_numbered.specs.History.{event, opening, Has, IsUntouched, IsRow}
use Rattle.table_numbered.proofs.Histories.{has_push, nothing_first}

module _ {S : Type 0} where
  pub row_adds : (cs : List Cell) (log : List (Event S)) (p : ℕ) (s : S) → IsRow cs log → p < length cs → (w : ℕ) → (w ≡ 0 → ⊥) → (cell cs p).0 ≡ 0 → IsRow (set cs p (w, true)) (log ++ event p (Some s) ∷ [])
  row_adds cs log p s t here word full empty =
      let new : List Cell = set cs p (word, true) in let long : length new ≡ length cs = length-set cs p (word, true) in
      let it : cell new p ≡ (word, true) = get_or-set_same cs p (word, true) (0, false) here in
      let others : (q : ℕ) → q ≢ p → cell new q ≡ cell cs q = λ q ne. get_or-set_other cs p q (word, true) (0, false) ne in
      let free : IsUntouched log p = t.free p empty in record {
        home = λ q lt. dite (ℕ_discrete q p) (λ (is : q ≡ p). subst (λ (i : ℕ). (cell new i).1 ≡ true) (sym is) (ap (λ (c : Cell). c.1) it))
            (λ (ne : q ≢ p). ap (λ (c : Cell). c.1) (others q ne) ∙ t.home q (omega (arith, lt, long)));
        inside = λ q u there. elim (has_push log p q s u there) [
          | inl old ↦ omega (arith, t.inside q u old, long)
          | inr is ↦ omega (arith, here, is.0, long)
        ];
        free = λ q zero u there. dite (ℕ_discrete q p)
            (λ (is : q ≡ p). absurd (full (sym (ap (λ (c : Cell). c.0) it) ∙ subst (λ (i : ℕ). (cell new i).0 ≡ 0) is zero)))
            (λ (ne : q ≢ p). elim (has_push log p q s u there) [
              | inl old ↦ t.free q (sym (ap (λ (c : Cell). c.0) (others q ne)) ∙ zero) u old
              | inr is ↦ absurd (ne (sym is.0))
            ]);
        once = λ q u w one other. elim (has_push log p q s u one) [
          | inl x ↦ elim (has_push log p q s w other) [
            | inl y ↦ t.once q u w x y
            | inr y ↦ absurd (free u (subst (λ (i : ℕ). Has log i u) (sym y.0) x))
          ]
          | inr x ↦ elim (has_push log p q s w other) [
            | inl y ↦ absurd (free w (subst (λ (i : ℕ). Has log i w) (sym x.0) y))
            | inr y ↦ sym x.1 ∙ y.1
          ]
        ];
      }

  -- n empty buckets, under a history that begins
  pub row_first : (n h : ℕ) (due : List S) → IsRow {S = S} (replicate n (0, true)) (opening h due ∷ [])
  row_first n h due = let nothing : Cell = (0, true) in let long : length (replicate n nothing) ≡ n = length-replicate n nothing in record {
    home = λ p lt. ap (λ (c : Cell). c.1) (get_or-replicate n p nothing (0, false) (omega (arith, lt, long)));
    inside = λ p s there. absurd (nothing_first h due p s there);
    free = λ p empty s there. nothing_first h due p s there;
    once = λ p s t there other. absurd (nothing_first h due p s there);
  }
