-- What the steps on a word add to the history, and what they tell.
use Rattle.std.proofs.Common.{◌≡◌, ◌≢◌, ℕ, zero, suc, ◌+◌, ◌^◌, ◌<◌, ◌≤◌, ◌/◌, ◌%◌, ◌++◌, ◌==◌, ◌⊎◌, Bool, true, false, List, [], ◌∷◌, length, set, Option, Some, None, refl, ap, sym, subst, ◌∙◌, arith, length-set, inl, inr}
use Rattle.std.specs.Prelude.{replicate}
use Rattle.std.proofs.lemmas.Bool.Decides.{nat_tests}
use Rattle.std.proofs.lemmas.List.{append-nil, get_or-set_same, get_or-set_other, get_or-replicate, length-replicate}
use Rattle.std.proofs.lemmas.List.Elements.{Contains-push}
use mathlib.Core.List.{IsPrefix}
use mathlib.Core.Logic.{dite}
use native.Mathlib.Decide.{ℕ_discrete}
use base.Growing.{prefix_trans}
use prog.Atomic.{either}
use Rattle.logbook.specs.Pages.{Cell, cell, keeps, no_nib, step, Moves, Goes, Nib}
use Rattle.table_terms.specs.Laws.{IsLaw, AllApart}
use Rattle.table_numbered.proofs.Apart.{apart_more}
use Rattle.table_numbered.specs.declared.event.Event.{Event}
use Rattle.table_numbered.specs.declared.event.Stored.{Stored}
use Rattle.table_numbered.specs.declared.event.Stored.TheVariants.{Entry, Closed}
use Rattle.table_numbered.specs.declared.event.Numbered.{Numbered}
use Rattle.table_numbered.specs.Probing.{bucket_at}
use Rattle.table_numbered.specs.Words.{word_of}
use Rattle.table_numbered.specs.History.{event, opening, due_of, IsDue, HasAll, Has, IsUntouched, HasSize, size_of, IsInside, Moved, History, Stands, entries, IsEntry, NonePasses, Reaches, Fits, IsKept, IsReached, Says, AddsEvent, Adds, Looks, Publishes}
use Rattle.table_numbered.proofs.Rows.{row_adds, row_first}
use Rattle.table_numbered.proofs.Prefixes.{prefix_push, prefix_has}
use Rattle.table_numbered.proofs.Histories.{nothing_first, entries_first, due_on, fits_may, size_is, size_agrees, size_on, or_stored, has_on, has_push, untouched_free, entries_push, entries_closed, among_stands, reaches_on, fits_on, none_beyond}

module _ {V : Type 0} (same : Numbered V → Numbered V → Bool) (mark : Numbered V → ℕ) where
  abbrev E : Type 0
  E = Numbered V

  abbrev H : Type 0
  H = History E

  abbrev Kept : List Cell → H → Type 0
  Kept = IsKept same mark

  pub word_not_0 : (s : Stored E) → word_of mark s ≡ 0 → ⊥
  word_not_0 (Entry e) is = omega arith
  word_not_0 Closed is = omega arith

  module _ (law : IsLaw same mark) where
    -- where a probe for the entry ends at an empty bucket, nothing is the same
    none_yet : (cs : List Cell) (log : H) (p : ℕ) (e : E) → Kept cs log → IsUntouched log p → Reaches same mark (length cs) log e p → NonePasses (same e) (IsEntry log)
    none_yet cs log p e t free at = none_beyond same mark (length cs) at.0 (mark e) (same e) log t.size (cs, t) (λ w is. sym (law.agrees e w is)) at.3 (λ lt. untouched_free log (bucket_at (length cs) (mark e) at.0) (subst (IsUntouched log) (sym at.2) free))

    -- what is stored in an empty bucket where it fits leaves the entries apart
    apart_push : (cs : List Cell) (log : H) (p : ℕ) (s : Stored E) → Kept cs log → IsUntouched log p → Fits same mark (length cs) log s p → AllApart same (entries (log ++ event p (Some s) ∷ []))
    apart_push cs log p (Entry e) t free fits = let none : NonePasses (same e) (IsEntry log) = none_yet cs log p e t free fits.1 in
        subst (AllApart same) (sym (entries_push log p e)) (apart_more (λ (u : E). u) same mark law (entries log) t.apart e (λ w among. none w (among_stands log w among)))
    apart_push cs log p Closed t free fits = subst (AllApart same) (sym (entries_closed log p)) t.apart

    stored_is : (q p : ℕ) (u s : Stored E) → event q (Some u) ≡ event p (Some s) → u ≡ s
    stored_is q p u s is = ap (λ (x : Event (Stored E)). or_stored u x.value) is

    -- something is stored in an empty bucket where it fits
    adds_kept : (cs : List Cell) (log : H) (p : ℕ) (s : Stored E) → Kept cs log → p < length cs → (cell cs p).0 ≡ 0 → Fits same mark (length cs) log s p
        → Kept (set cs p (word_of mark s, true)) (log ++ event p (Some s) ∷ [])
    adds_kept cs log p s t here empty fits =
        let w : Cell = (word_of mark s, true) in let later : H = log ++ event p (Some s) ∷ [] in let new : List Cell = set cs p w in
        let long : length new ≡ length cs = length-set cs p w in let on : IsPrefix log later = (event p (Some s) ∷ [], refl) in
        let it : cell new p ≡ w = get_or-set_same cs p w (0, false) here in
        let others : (q : ℕ) → q ≢ p → cell new q ≡ cell cs q = λ q ne. get_or-set_other cs p q w (0, false) ne in
        let free : IsUntouched log p = t.row.free p empty in record {
          size = subst (λ (m : ℕ). HasSize m later) (sym long) (size_on (length cs) log later t.size on);
          row = row_adds cs log p s t.row here (word_of mark s) (word_not_0 s) empty;
          says = λ q lt full. dite (ℕ_discrete q p)
              (λ (is : q ≡ p). subst (λ (i : ℕ). (u : Stored E) × Has later i u × ((cell new i).0 ≡ word_of mark u)) (sym is) (s, Contains-push log (event p (Some s)), ap (λ (c : Cell). c.0) it))
              (λ (ne : q ≢ p). let alike : (cell new q).0 ≡ (cell cs q).0 = ap (λ (c : Cell). c.0) (others q ne) in
              let r = t.says q (omega (arith, lt, long)) (λ zero. full (alike ∙ zero)) in (r.0, has_on log later q r.0 on r.1, alike ∙ r.2));
          number = λ q e there. elim (has_push log p q s (Entry e) there) [
            | inl old ↦ t.number q e old
            | inr is ↦ (subst (λ (x : ℕ × Stored E). Fits same mark (length cs) log x.1 x.0) (λ i. (is.0 i, is.1 i)) fits).0
          ];
          reach = λ q e there. subst (λ (m : ℕ). Reaches same mark m later e q) (sym long) (elim (has_push log p q s (Entry e) there) [
            | inl old ↦ reaches_on same mark (length cs) q log later e on (t.reach q e old)
            | inr is ↦ (subst (λ (x : ℕ × Stored E). Fits same mark (length cs) later x.1 x.0) (λ i. (is.0 i, is.1 i)) (fits_on same mark (length cs) (length cs) p log later s t.size on fits)).1
          ]);
          apart = apart_push cs log p s t free fits;
          due = λ before q u pre. subst (λ (ds : List (Stored E)). IsDue ds u ⊎ HasAll ds before) (sym (due_on (length cs) log later t.size on)) (elim (prefix_push before log (event q (Some u)) (event p (Some s)) pre) [
            | inl old ↦ t.due before q u old
            | inr is ↦ subst (λ (x : H × Stored E). IsDue (due_of log) x.1 ⊎ HasAll (due_of log) x.0) (λ i. (sym is.0 i, sym (stored_is q p u s is.1) i)) (fits_may same mark (length cs) p log s fits)
          ]);
        }

  -- what a bucket's word says
  says_now : (cs : List Cell) (log : H) (p : ℕ) → Kept cs log → p < length cs → Says same mark p (cell cs p).0 log
  says_now cs log p t here = (t.row.free p, t.says p here)

  -- a cell that is set to what it holds is as it was
  as_it_is : (cs : List Cell) (p n : ℕ) → p < length cs → (n, true) ≡ cell cs p → set cs p (n, true) ≡ cs
  as_it_is [] p n there e = absurd (omega arith)
  as_it_is (c ∷ cs) zero n there e = λ i. e i ∷ cs
  as_it_is (c ∷ cs) (suc p) n there e = λ i. c ∷ as_it_is cs p n (omega arith) e i

  inside_here : (cs : List Cell) (seen log : H) (p : ℕ) → Kept cs log → IsPrefix seen log → IsInside p seen → p < length cs
  inside_here cs seen log p t on inside = subst (λ (m : ℕ). p < m) (size_agrees inside.0 (length cs) log (size_on inside.0 seen log inside.1 on) t.size) inside.2

  size_here : (cs : List Cell) (seen log : H) (p : ℕ) → Kept cs log → IsPrefix seen log → IsInside p seen → size_of seen ≡ length cs
  size_here cs seen log p t on inside = size_is inside.0 seen inside.1 ∙ size_agrees inside.0 (length cs) log (size_on inside.0 seen log inside.1 on) t.size

  abbrev Shown : H → H
  Shown log = log

  pub looks_moves : (p : ℕ) (seen : H) (ask : Event (Stored E)) → IsInside p seen
      → Moves Kept Shown (Moved ask) p (seen, (no_nib, Some 0)) (λ n. n) (Looks same mark (step p 0 0 ask) (seen, (no_nib, Some 0)))
  looks_moves p seen ask inside cs log t on away = let here : p < length cs = inside_here cs seen log p t on inside in
      let alike : set cs p ((cell cs p).0, true) ≡ cs = as_it_is cs p (cell cs p).0 here (λ i. ((cell cs p).0, sym (t.row.home p here) i)) in let none : log ++ [] ≡ log = append-nil log in
      let kept : Kept (set cs p ((cell cs p).0, true)) (log ++ []) = subst (λ (z : List Cell × H). Kept z.0 z.1) (λ i. (sym alike i, sym none i)) t in
      (here, t.row.home p here, (keeps, [], Some 0, tt, kept, inl (refl, none), subst (λ (l : H). Says same mark p (cell cs p).0 l × IsReached same mark l) (sym none) (says_now cs log p t here, (cs, t))))

  module _ (law : IsLaw same mark) (p : ℕ) (s : Stored E) (seen : H) where
    abbrev ask : Event (Stored E)
    ask = event p (Some s)

    abbrev w : ℕ
    w = word_of mark s

    abbrev Then : ℕ → (H × (Nib × Option ℕ)) → Type 0
    Then = Publishes same mark (step p 0 w ask) (seen, (no_nib, None))

    goes : (cs : List Cell) (log : H) → Kept cs log → IsPrefix seen log → p < length cs → Fits same mark (length cs) log s p → (b : Bool) → ((cell cs p).0 == 0) ≡ b
        → Goes Kept Shown (Moved ask) p (seen, (no_nib, None)) (λ n. either (n == 0) w n) Then cs log
    goes cs log t on here fits true is =
        let empty : (cell cs p).0 ≡ 0 = grind (arith, nat_tests) in let new : Kept (set cs p (w, true)) (log ++ ask ∷ []) = adds_kept law cs log p s t here empty fits in
        let kept : Kept (set cs p (either ((cell cs p).0 == 0) w (cell cs p).0, true)) (log ++ ask ∷ []) = rw is new in (
          keeps,
          ask ∷ [],
          Some 1,
          tt,
          kept,
          inr (1, refl, refl, inl (refl, refl)),
          rw is ((log, on, refl, t.row.free p empty, (cs, t), (set cs p (w, true), new)), refl),
        )
    goes cs log t on here fits false is =
        let none : log ++ [] ≡ log = append-nil log in let alike : set cs p ((cell cs p).0, true) ≡ cs = as_it_is cs p (cell cs p).0 here (λ i. ((cell cs p).0, sym (t.row.home p here) i)) in
        let old : Kept (set cs p ((cell cs p).0, true)) (log ++ []) = subst (λ (z : List Cell × H). Kept z.0 z.1) (λ i. (sym alike i, sym none i)) t in
        let kept : Kept (set cs p (either ((cell cs p).0 == 0) w (cell cs p).0, true)) (log ++ []) = rw is old in (
          keeps,
          [],
          Some 0,
          tt,
          kept,
          inr (0, refl, refl, inr (refl, none)),
          rw is (subst (λ (l : H). Says same mark p (cell cs p).0 l × IsReached same mark l × (mathlib.Core.Path.Path (Option ℕ) (Some 0) (Some 0))) (sym none) (says_now cs log p t here, (cs, t), refl)),
        )

    pub publishes_moves : IsInside p seen → Fits same mark (size_of seen) seen s p
        → Moves Kept Shown (Moved ask) p (seen, (no_nib, None)) (λ n. either (n == 0) w n) Then
    publishes_moves inside fits cs log t on away = let here : p < length cs = inside_here cs seen log p t on inside in
        let there : Fits same mark (length cs) log s p = subst (λ (m : ℕ). Fits same mark m log s p) (size_here cs seen log p t on inside) (fits_on same mark (size_of seen) inside.0 p seen log s inside.1 on fits) in
        (here, t.row.home p here, goes cs log t on here there ((cell cs p).0 == 0) refl)

  -- the same of a bucket and an event that were met under other names
  pub adds_at : (p q : ℕ) (e f : Event (Stored E)) (old new : H) → p ≡ q → f ≡ e → AddsEvent same mark f q old new → AddsEvent same mark e p old new
  adds_at p q e f old new place is adds = subst (λ (z : ℕ × Event (Stored E)). AddsEvent same mark z.1 z.0 old new) (λ i. (sym place i, is i)) adds

  -- a book that was opened with n empty buckets
  pub kept_first : (n : ℕ) (due : List (Stored E)) → Kept (replicate n (0, true)) (opening n due ∷ [])
  kept_first n due = let cs : List Cell = replicate n (0, true) in let long : length cs ≡ n = length-replicate n (0, true) in
      let log : H = opening n due ∷ [] in let begins : HasSize n log = ([], refl) in record {
        size = subst (λ (m : ℕ). HasSize m log) (sym long) begins;
        row = row_first n n due;
        says = λ p lt full. absurd (full (ap (λ (c : Cell). c.0) (get_or-replicate n p (0, true) (0, false) (omega (arith, lt, long)))));
        number = λ p e there. absurd (nothing_first n due p (Entry e) there);
        reach = λ p e there. absurd (nothing_first n due p (Entry e) there);
        apart = subst (AllApart same) (sym (entries_first n due)) (λ x. omega arith);
        due = λ before p s pre. absurd (nothing_first n due p s (prefix_has before log (event p (Some s)) pre));
      }

  -- what is added behind a later history is added behind an earlier one
  pub adds_after : (p : ℕ) (e : Event (Stored E)) (old mid new : H) → IsPrefix old mid → AddsEvent same mark e p mid new → AddsEvent same mark e p old new
  adds_after p e old mid new on a = (a.0, prefix_trans old mid a.0 on a.1, a.2, a.3, a.4, a.5)

  -- what was added is there
  pub added : (p : ℕ) (s : Stored E) (old new : H) → Adds same mark s p old new → Has new p s
  added p s old new a = subst (λ (l : H). Has l p s) (sym a.2) (Contains-push a.0 (event p (Some s)))

  -- a word that is 1 says that the bucket is closed
  pub closed_says : (p n : ℕ) (log : H) → Says same mark p n log → n ≡ 1 → Has log p Closed
  closed_says p n log says one = let x = says.1 (λ zero. omega (arith, zero, one)) in subst (Has log p) (closed_is x.0 (sym x.2 ∙ one)) x.1
    where
      closed_is : (s : Stored E) → word_of mark s ≡ 1 → s ≡ Closed
      closed_is (Entry e) is = absurd (omega arith)
      closed_is Closed is = refl

  -- a word that is more says which entry the bucket has
  pub entry_says : (p n : ℕ) (log : H) → Says same mark p n log → 2 ≤ n → (e : E) × Stands log p e × (n ≡ word_of mark (Entry e))
  entry_says p n log says more = let x = says.1 (λ zero. omega (arith, zero, more)) in entry_at x.0 x.1 x.2
    where
      entry_at : (s : Stored E) → Has log p s → n ≡ word_of mark s → (e : E) × Stands log p e × (n ≡ word_of mark (Entry e))
      entry_at (Entry e) there is = (e, there, is)
      entry_at Closed there is = absurd (omega (arith, is, more))

  -- which has its number in its lower half, and its mark in the upper one
  pub number_says : (p n : ℕ) (e : E) (log : H) → IsReached same mark log → Stands log p e → n ≡ word_of mark (Entry e) → (n % 2 ^ 32 ≡ e.number + 2) × (n / 2 ^ 32 ≡ mark e)
  number_says p n e log r there is = let few = r.1.number p e there in (omega (arith, few, is), omega (arith, few, is))
