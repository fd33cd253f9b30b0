-- What the steps on a word add to a history, and what they tell.
use Rattle.std.proofs.Common.{◌≡◌, ◌≢◌, ℕ, zero, suc, ◌<◌, ◌++◌, ◌⊎◌, ◌==◌, Bool, true, false, List, [], ◌∷◌, length, set, Option, Some, None, refl, ap, sym, subst, ◌∙◌, arith, length-set, inl, inr}
use Rattle.std.proofs.lemmas.Bool.Decides.{nat_tests}
use Rattle.std.proofs.lemmas.List.{append-nil, get_or-set_same, get_or-set_other, get_or-replicate, length-replicate}
use Rattle.std.proofs.lemmas.List.Elements.{Contains-push, Contains-push_cases}
use Rattle.std.specs.Prelude.{replicate, is_some}
use Rattle.std.proofs.lemmas.Bool.{false≢true}
use mathlib.Core.List.{IsPrefix}
use mathlib.Core.Logic.{dite}
use native.Mathlib.Decide.{ℕ_discrete}
use base.Growing.{prefix_trans}
use prog.Atomic.{either}
use Rattle.logbook.specs.Pages.{Cell, cell, keeps, no_nib, step, Moves, Goes}
use Rattle.table_chain.specs.declared.event.Event.{Event}
use Rattle.table_chain.specs.declared.event.Stored.{Stored}
use Rattle.table_chain.specs.declared.event.Stored.TheVariants.{Shown, End}
use Rattle.table_chain.specs.History.{History, event, Has, IsUntouched, HasSize, slots_of, IsInside, Moved, word_of, MayStand, Fits, IsKept, IsReached, Told, Looks, Adds, Stores}
use Rattle.table_chain.proofs.Trades.{later}

module _ {G : Type 0} where
  pub slots_is : (n : ℕ) (log : History G) → HasSize n log → slots_of log ≡ n
  slots_is n log has = ap slots_of (sym has.1)

  pub size_on : (n : ℕ) (l m : History G) → HasSize n l → IsPrefix l m → HasSize n m
  size_on n l m has on = prefix_trans (event n 0 None ∷ []) l m has on

  abbrev or_stored : Stored G → Option (Stored G) → Stored G
  or_stored d None = d
  or_stored d (Some s) = s

  -- what is stored once something is added was stored before, or is that
  pub has_push : (log : History G) (p k q j : ℕ) (s t : Stored G) → Has (log ++ event p k (Some s) ∷ []) q j t → Has log q j t ⊎ ((p ≡ q) × (k ≡ j) × (s ≡ t))
  has_push log p k q j s t there = elim (Contains-push_cases log (event p k (Some s)) (event q j (Some t)) there) [
    | inl old ↦ inl old
    | inr is ↦ inr (ap (λ (e : Event G). e.slot) is, ap (λ (e : Event G). e.number) is, ap (λ (e : Event G). or_stored s e.value) is)
  ]

  pub shown_is : (g h : G) → Shown g ≡ Shown h → g ≡ h
  shown_is g h is = cc

  pub word_not_0 : (s : Stored G) (k : ℕ) → word_of s k ≡ 0 → ⊥
  word_not_0 (Shown g) k e = omega arith
  word_not_0 End k e = omega arith

  module _ (Begins : G → Type 0) (Follows : G → G → Type 0) where
    abbrev Kept : List Cell → History G → Type 0
    Kept = IsKept Begins Follows

    -- what may stand in a slot may stand there at each later time
    pub may_on : (l m : History G) (p : ℕ) (g : G) → IsPrefix l m → MayStand Begins Follows l p g → MayStand Begins Follows m p g
    may_on l m p g on may = record {
      first = may.first;
      behind = λ q is. let b = may.behind q is in (b.0, (b.1.0, later l m q b.1.0 (Shown b.0) on b.1.1), b.2);
    }

    fits_on : (l m : History G) (p : ℕ) (s : Stored G) → IsPrefix l m → Fits Begins Follows l p s → Fits Begins Follows m p s
    fits_on l m p s on fits g is = may_on l m p g on (fits g is)

    -- what is stored in an empty slot
    adds_kept : (cs : List Cell) (log : History G) (p k : ℕ) (s : Stored G) → Kept cs log → p < length cs → Fits Begins Follows log p s → (cell cs p).0 ≡ 0 → Kept (set cs p (word_of s k, true)) (log ++ event p k (Some s) ∷ [])
    adds_kept cs log p k s t here fits empty =
        let w : Cell = (word_of s k, true) in let later_log : History G = log ++ event p k (Some s) ∷ [] in let new : List Cell = set cs p w in
        let long : length new ≡ length cs = length-set cs p w in let on : IsPrefix log later_log = (event p k (Some s) ∷ [], refl) in
        let it : cell new p ≡ w = get_or-set_same cs p w (0, false) here in
        let others : (q : ℕ) → q ≢ p → cell new q ≡ cell cs q = λ q ne. get_or-set_other cs p q w (0, false) ne in
        let nothing : IsUntouched log p = t.free p empty in record {
          size = subst (λ (m : ℕ). HasSize m later_log) (sym long) (size_on (length cs) log later_log t.size on);
          home = λ q lt. dite (ℕ_discrete q p) (λ (is : q ≡ p). subst (λ (i : ℕ). (cell new i).1 ≡ true) (sym is) (ap (λ (c : Cell). c.1) it))
              (λ (ne : q ≢ p). ap (λ (c : Cell). c.1) (others q ne) ∙ t.home q (omega (arith, lt, long)));
          inside = λ q j u there. elim (has_push log p k q j s u there) [
            | inl old ↦ omega (arith, t.inside q j u old, long)
            | inr is ↦ omega (arith, here, is.0, long)
          ];
          free = λ q no j u there. dite (ℕ_discrete q p)
              (λ (is : q ≡ p). word_not_0 s k (sym (ap (λ (c : Cell). c.0) it) ∙ subst (λ (i : ℕ). (cell new i).0 ≡ 0) is no))
              (λ (ne : q ≢ p). elim (has_push log p k q j s u there) [
                | inl old ↦ t.free q (sym (ap (λ (c : Cell). c.0) (others q ne)) ∙ no) j u old
                | inr is ↦ absurd (ne (sym is.0))
              ]);
          once = λ q i j u v one other. elim (has_push log p k q i s u one) [
            | inl x ↦ elim (has_push log p k q j s v other) [
              | inl y ↦ t.once q i j u v x y
              | inr y ↦ absurd (nothing i u (subst (λ (a : ℕ). Has log a i u) (sym y.0) x))
            ]
            | inr x ↦ elim (has_push log p k q j s v other) [
              | inl y ↦ absurd (nothing j v (subst (λ (a : ℕ). Has log a j v) (sym x.0) y))
              | inr y ↦ (sym x.1 ∙ y.1, sym x.2 ∙ y.2)
            ]
          ];
          set = λ q lt full. dite (ℕ_discrete q p)
              (λ (is : q ≡ p). subst (λ (i : ℕ). (j : ℕ) × (u : Stored G) × Has later_log i j u × ((cell new i).0 ≡ word_of u j)) (sym is) (k, s, Contains-push log (event p k (Some s)), ap (λ (c : Cell). c.0) it))
              (λ (ne : q ≢ p). let same : (cell new q).0 ≡ (cell cs q).0 = ap (λ (c : Cell). c.0) (others q ne) in
              let r = t.set q (omega (arith, lt, long)) (λ zero. full (same ∙ zero)) in (r.0, r.1, later log later_log q r.0 r.1 on r.2, same ∙ r.3));
          joined = λ q g there. elim (has_push log p k q there.0 s (Shown g) there.1) [
            | inl old ↦ may_on log later_log q g on (t.joined q g (there.0, old))
            | inr is ↦ may_on log later_log q g on (subst (λ (i : ℕ). MayStand Begins Follows log i g) is.0 (fits g is.2))
          ];
        }

    -- what a slot's word says
    told : (cs : List Cell) (log : History G) (p : ℕ) → Kept cs log → p < length cs → Told Begins Follows p (cell cs p).0 log
    told cs log p t here = (t.free p, t.set p here)

    -- a cell that is set to what it holds is as it was
    as_it_is : (cs : List Cell) (p n : ℕ) → p < length cs → (n, true) ≡ cell cs p → set cs p (n, true) ≡ cs
    as_it_is [] p n there e = absurd (omega arith)
    as_it_is (c ∷ cs) zero n there e = λ i. e i ∷ cs
    as_it_is (c ∷ cs) (suc p) n there e = λ i. c ∷ as_it_is cs p n (omega arith) e i

    inside_here : (cs : List Cell) (seen log : History G) (p : ℕ) → Kept cs log → IsPrefix seen log → IsInside p seen → p < length cs
    inside_here cs seen log p t on inside = omega (arith, inside.2, slots_is inside.0 log (size_on inside.0 seen log inside.1 on), slots_is (length cs) log t.size)

    abbrev Shows : History G → History G
    Shows log = log

    pub looks_moves : (p : ℕ) (seen : History G) (ask : Event G) → IsInside p seen
        → Moves (IsKept Begins Follows) Shows (Moved ask) p (seen, (no_nib, Some 0)) (λ n. n) (Looks Begins Follows (step p 0 0 ask) (seen, (no_nib, Some 0)))
    looks_moves p seen ask inside cs log t on away = let here : p < length cs = inside_here cs seen log p t on inside in
        let same : set cs p ((cell cs p).0, true) ≡ cs = as_it_is cs p (cell cs p).0 here (λ i. ((cell cs p).0, sym (t.home p here) i)) in let none : log ++ [] ≡ log = append-nil log in
        let kept : Kept (set cs p ((cell cs p).0, true)) (log ++ []) = subst (λ (z : List Cell × History G). Kept z.0 z.1) (λ i. (sym same i, sym none i)) t in
        (here, t.home p here, (keeps, [], Some 0, tt, kept, inl (refl, none), subst (λ (l : History G). Told Begins Follows p (cell cs p).0 l × IsReached Begins Follows l) (sym none) (told cs log p t here, (cs, t))))

    module _ (p k : ℕ) (s : Stored G) (seen : History G) where
      abbrev ask : Event G
      ask = event p k (Some s)

      abbrev w : ℕ
      w = word_of s k

      abbrev Then : ℕ → (History G × (Rattle.logbook.specs.Pages.Nib × Option ℕ)) → Type 0
      Then = Stores Begins Follows (step p 0 w ask) (seen, (no_nib, None))

      goes : (cs : List Cell) (log : History G) → Kept cs log → IsPrefix seen log → p < length cs → Fits Begins Follows log p s
          → (b : Bool) → ((cell cs p).0 == 0) ≡ b → Goes (IsKept Begins Follows) Shows (Moved ask) p (seen, (no_nib, None)) (λ n. either (n == 0) w n) Then cs log
      goes cs log t on here fits true is =
          let empty : (cell cs p).0 ≡ 0 = grind (arith, nat_tests) in let new : Kept (set cs p (w, true)) (log ++ ask ∷ []) = adds_kept cs log p k s t here fits empty in
          let kept : Kept (set cs p (either ((cell cs p).0 == 0) w (cell cs p).0, true)) (log ++ ask ∷ []) = rw is new in (
            keeps,
            ask ∷ [],
            Some 1,
            tt,
            kept,
            inr (1, refl, refl, inl (refl, refl)),
            rw is ((log, on, refl, t.free p empty, (cs, t), (set cs p (w, true), new)), refl),
          )
      goes cs log t on here fits false is =
          let none : log ++ [] ≡ log = append-nil log in let same : set cs p ((cell cs p).0, true) ≡ cs = as_it_is cs p (cell cs p).0 here (λ i. ((cell cs p).0, sym (t.home p here) i)) in
          let old : Kept (set cs p ((cell cs p).0, true)) (log ++ []) = subst (λ (z : List Cell × History G). Kept z.0 z.1) (λ i. (sym same i, sym none i)) t in
          let kept : Kept (set cs p (either ((cell cs p).0 == 0) w (cell cs p).0, true)) (log ++ []) = rw is old in (
            keeps,
            [],
            Some 0,
            tt,
            kept,
            inr (0, refl, refl, inr (refl, none)),
            rw is (subst (λ (l : History G). Told Begins Follows p (cell cs p).0 l × IsReached Begins Follows l × (mathlib.Core.Path.Path (Option ℕ) (Some 0) (Some 0))) (sym none) (told cs log p t here, (cs, t), refl)),
          )

      pub stores_moves : IsInside p seen → Fits Begins Follows seen p s
          → Moves (IsKept Begins Follows) Shows (Moved ask) p (seen, (no_nib, None)) (λ n. either (n == 0) w n) Then
      stores_moves inside fits cs log t on away = let here : p < length cs = inside_here cs seen log p t on inside in (here, t.home p here, goes cs log t on here (fits_on seen log p s on fits) ((cell cs p).0 == 0) refl)

    -- the same of a slot and an entry that were met under other names
    pub adds_at : (p q : ℕ) (e f : Event G) (old new : History G) → p ≡ q → f ≡ e → Adds Begins Follows f q old new → Adds Begins Follows e p old new
    adds_at p q e f old new place is adds = subst (λ (z : ℕ × Event G). Adds Begins Follows z.1 z.0 old new) (λ i. (sym place i, is i)) adds

    -- what is added behind a later history is added behind an earlier one
    pub adds_after : (p : ℕ) (e : Event G) (old mid new : History G) → IsPrefix old mid → Adds Begins Follows e p mid new → Adds Begins Follows e p old new
    adds_after p e old mid new on a = (a.0, prefix_trans old mid a.0 on a.1, a.2, a.3, a.4, a.5)

    -- what was added is there
    pub added : (p k : ℕ) (s : Stored G) (old new : History G) → Adds Begins Follows (event p k (Some s)) p old new → Has new p k s
    added p k s old new a = subst (λ (l : History G). Has l p k s) (sym a.2) (Contains-push a.0 (event p k (Some s)))

    -- and nothing else is in that slot
    pub added_one : (p k j : ℕ) (s t : Stored G) (old new : History G) → Adds Begins Follows (event p k (Some s)) p old new → Has new p j t → t ≡ s
    added_one p k j s t old new a there = elim (has_push a.0 p k p j s t (subst (λ (l : History G). Has l p j t) a.2 there)) [
      | inl before ↦ absurd (a.3 j t before)
      | inr is ↦ sym is.2
    ]

-- a history that begins says of no slot that something was stored there
pub nothing_first : {G : Type 0} (n p k : ℕ) (s : Stored G) → Has (event n 0 None ∷ []) p k s → ⊥
nothing_first n p k s (zero, lt, is) = false≢true (ap (λ (e : Event _). is_some e.value) is)
nothing_first n p k s (suc j, lt, is) = omega (arith, lt)

module _ {G : Type 0} (Begins : G → Type 0) (Follows : G → G → Type 0) where
  pub kept_first : (n : ℕ) → IsKept Begins Follows (replicate n (0, true)) (event n 0 None ∷ [])
  kept_first n = let cs : List Cell = replicate n (0, true) in let long : length cs ≡ n = length-replicate n (0, true) in let log : History G = event n 0 None ∷ [] in let begins : HasSize n log = ([], refl) in
      let cell_is : (p : ℕ) → p < n → cell cs p ≡ (0, true) = λ p lt. get_or-replicate n p (0, true) (0, false) lt in record {
        size = subst (λ (m : ℕ). HasSize m log) (sym long) begins;
        home = λ p lt. ap (λ (c : Cell). c.1) (cell_is p (omega (arith, lt, long)));
        inside = λ p k s there. absurd (nothing_first n p k s there);
        free = λ p empty k s there. nothing_first n p k s there;
        once = λ p k j s t there other. absurd (nothing_first n p k s there);
        set = λ p lt full. absurd (full (ap (λ (c : Cell). c.0) (cell_is p (omega (arith, lt, long)))));
        joined = λ p g there. absurd (nothing_first n p there.0 (Shown g) there.1);
      }
