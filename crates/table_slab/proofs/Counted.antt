-- What the steps on a counter's words do.
use Rattle.std.proofs.Common.{◌≡◌, ℕ, suc, ◌+◌, ◌<◌, ◌==◌, Bool, true, false, List, [], ◌∷◌, ◌++◌, length, refl, ap, sym, ◌∙◌, subst, arith, inl, inr, Some, None}
use Rattle.std.proofs.lemmas.List.{append-nil}
use Rattle.std.proofs.lemmas.Bool.Decides.{nat_tests}
use prog.Atomic.{either}
use Rattle.logbook.specs.Pages.{Cell, cell, keeps, no_nib, step, Moves, Goes}
use Rattle.table_slab.specs.declared.counter.rule.Event.{Event}
use Rattle.table_slab.specs.declared.counter.rule.Event.TheVariants.{Taken, Left}
use Rattle.table_slab.specs.Counting.{total, lying, IsKept, Moved, Looks, Swaps}

abbrev Shown : List Event → List Event
Shown log = log

abbrev words_of : ℕ → ℕ → List Cell
words_of n w = (n, true) ∷ (w, true) ∷ []

pub total_taken : (log : List Event) (n : ℕ) → total (log ++ Taken n ∷ []) ≡ total log + n
total_taken [] n = omega arith
total_taken (Taken m ∷ log) n = omega (arith, total_taken log n)
total_taken (Left w ∷ log) n = total_taken log n

pub total_left : (log : List Event) (v : ℕ) → total (log ++ Left v ∷ []) ≡ total log
total_left [] v = refl
total_left (Taken m ∷ log) v = omega (arith, total_left log v)
total_left (Left w ∷ log) v = total_left log v

pub lying_taken : (w : ℕ) (log : List Event) (n : ℕ) → lying w (log ++ Taken n ∷ []) ≡ lying w log
lying_taken w [] n = refl
lying_taken w (Taken m ∷ log) n = lying_taken w log n
lying_taken w (Left v ∷ log) n = lying_taken v log n

pub lying_left : (w : ℕ) (log : List Event) (v : ℕ) → lying w (log ++ Left v ∷ []) ≡ v
lying_left w [] v = refl
lying_left w (Taken m ∷ log) v = lying_left w log v
lying_left w (Left u ∷ log) v = lying_left u log v

-- a step that adds no entry
still : (log : List Event) → words_of (total log) (lying 0 log) ≡ words_of (total (log ++ [])) (lying 0 (log ++ []))
still log = ap (λ (l : List Event). words_of (total l) (lying 0 l)) (sym (append-nil log))

module _ (v : List Event) (ask : Event) where
  pub looks_first : Moves IsKept Shown (Moved ask) 0 (v, (no_nib, Some 0)) (λ n. n) (Looks (step 0 0 0 ask) (v, (no_nib, Some 0)))
  looks_first cs log kept pre away =
      let P : List Cell → Type 0 = λ c. (0 < length c) × ((cell c 0).1 ≡ true) × Goes IsKept Shown (Moved ask) 0 (v, (no_nib, Some 0)) (λ n. n) (Looks (step 0 0 0 ask) (v, (no_nib, Some 0))) c log in
      subst P (sym kept.words) (omega arith, refl, (keeps, [], Some 0, tt, record { words = still log }, inl (refl, append-nil log), tt))

  pub looks_second : Moves IsKept Shown (Moved ask) 1 (v, (no_nib, Some 0)) (λ n. n) (Looks (step 1 0 0 ask) (v, (no_nib, Some 0)))
  looks_second cs log kept pre away =
      let P : List Cell → Type 0 = λ c. (1 < length c) × ((cell c 1).1 ≡ true) × Goes IsKept Shown (Moved ask) 1 (v, (no_nib, Some 0)) (λ n. n) (Looks (step 1 0 0 ask) (v, (no_nib, Some 0))) c log in
      subst P (sym kept.words) (omega arith, refl, (keeps, [], Some 0, tt, record { words = still log }, inl (refl, append-nil log), tt))

module _ (v : List Event) (count old new : ℕ) where
  abbrev Takes_it : List Cell → List Event → Type 0
  Takes_it = Goes IsKept Shown (Moved (Taken count)) 0 (v, (no_nib, None)) (λ n. either (n == old) new n) (Swaps (step 0 old new (Taken count)) (v, (no_nib, None)))

  takes : new ≡ old + count → (log : List Event) (b : Bool) → (total log == old) ≡ b → Takes_it (words_of (total log) (lying 0 log)) log
  takes far log true is = let here : total log ≡ old = grind (arith, nat_tests) in
      let n : either (total log == old) new (total log) ≡ total (log ++ Taken count ∷ []) = rw is (omega (arith, total_taken log count, here, far)) in
      (keeps, Taken count ∷ [], Some (suc old), tt, record { words = λ i. words_of (n i) (sym (lying_taken 0 log count) i) }, inr (suc old, refl, refl, inl (ap suc (sym here), refl)), rw is refl)
  takes far log false is = let n : either (total log == old) new (total log) ≡ total log = rw is refl in
      (keeps, [], Some 0, tt, record { words = ap (λ (k : ℕ). words_of k (lying 0 log)) n ∙ still log }, inr (0, refl, refl, inr (refl, append-nil log)), rw is refl)

  pub takes_moves : new ≡ old + count → Moves IsKept Shown (Moved (Taken count)) 0 (v, (no_nib, None)) (λ n. either (n == old) new n) (Swaps (step 0 old new (Taken count)) (v, (no_nib, None)))
  takes_moves far cs log kept pre away =
      let P : List Cell → Type 0 = λ c. (0 < length c) × ((cell c 0).1 ≡ true) × Takes_it c log in
      subst P (sym kept.words) (omega arith, refl, takes far log (total log == old) refl)

module _ (v : List Event) (old new : ℕ) where
  abbrev Swaps_it : List Cell → List Event → Type 0
  Swaps_it = Goes IsKept Shown (Moved (Left new)) 1 (v, (no_nib, None)) (λ n. either (n == old) new n) (Swaps (step 1 old new (Left new)) (v, (no_nib, None)))

  swaps : (log : List Event) (b : Bool) → (lying 0 log == old) ≡ b → Swaps_it (words_of (total log) (lying 0 log)) log
  swaps log true is = let here : lying 0 log ≡ old = grind (arith, nat_tests) in
      let w : either (lying 0 log == old) new (lying 0 log) ≡ lying 0 (log ++ Left new ∷ []) = rw is (sym (lying_left 0 log new)) in
      (keeps, Left new ∷ [], Some (suc old), tt, record { words = λ i. words_of (sym (total_left log new) i) (w i) }, inr (suc old, refl, refl, inl (ap suc (sym here), refl)), rw is refl)
  swaps log false is = let w : either (lying 0 log == old) new (lying 0 log) ≡ lying 0 log = rw is refl in
      (keeps, [], Some 0, tt, record { words = ap (λ (k : ℕ). words_of (total log) k) w ∙ still log }, inr (0, refl, refl, inr (refl, append-nil log)), rw is refl)

  pub swaps_moves : Moves IsKept Shown (Moved (Left new)) 1 (v, (no_nib, None)) (λ n. either (n == old) new n) (Swaps (step 1 old new (Left new)) (v, (no_nib, None)))
  swaps_moves cs log kept pre away =
      let P : List Cell → Type 0 = λ c. (1 < length c) × ((cell c 1).1 ≡ true) × Swaps_it c log in
      subst P (sym kept.words) (omega arith, refl, swaps log (lying 0 log == old) refl)
