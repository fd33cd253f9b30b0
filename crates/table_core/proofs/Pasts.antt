-- Schedules cut in two, and induction at their end.
use Rattle.std.proofs.Common.{ℕ, ◌≡◌, ◌+◌, ◌++◌, List, [], ◌∷◌, Bool, true, false, refl, Some, sym, subst, ap, arith, ◌∙◌}
use Rattle.std.specs.Prelude.{◌||◌, option_to_list}
use Rattle.table_core.specs.Calls.{Call}
use Rattle.table_core.specs.Machine.{World, empty, Goes, acts, happens, finishes, run, after}
use Rattle.table_core.specs.History.{replies, placed_by, placed_at, placed, added_by, added, read_by, reads, loaded_by, generations_loaded, begun_by, beginnings, TakenEvent, answers_so, has_later}
use Rattle.table_core.specs.declared.event.Event.{Event}
use Rattle.table_core.specs.declared.call.Phase.{Phase}
use Rattle.table_core.specs.declared.call.Answer.{Answer}
use Rattle.table_core.proofs.Turns.{Turn, turn}
use Rattle.std.proofs.lemmas.List.{append_assoc}

pub append-none : {X : Type 0} (m : List X) → m ++ [] ≡ m
append-none [] = refl
append-none (x ∷ m) = ap (λ l. x ∷ l) (append-none m)

pub run_append : (s more : List Event) (w : World) → run w (s ++ more) ≡ run (run w s) more
run_append [] more w = refl
run_append (e ∷ s) more w = run_append s more (happens w e)

pub placed_append : (s more : List Event) (w : World) → placed w (s ++ more) ≡ placed w s ++ placed (run w s) more
placed_append [] more w = refl
placed_append (e ∷ s) more w = ap (λ l. placed_at w e ++ l) (placed_append s more (happens w e)) ∙ sym (append_assoc (placed_at w e) (placed (happens w e) s) (placed (run (happens w e) s) more))

pub replies_append : (s more : List Event) (w : World) → replies w (s ++ more) ≡ replies w s ++ replies (run w s) more
replies_append [] more w = refl
replies_append (e ∷ s) more w = ap (λ l. option_to_list (finishes w e) ++ l) (replies_append s more (happens w e)) ∙ sym (append_assoc (option_to_list (finishes w e)) (replies (happens w e) s) (replies (run (happens w e) s) more))

pub added_append : (s more : List Event) (w : World) → added w (s ++ more) ≡ added w s + added (run w s) more
added_append [] more w = omega arith
added_append (e ∷ s) more w = omega (arith, added_append s more (happens w e))

pub reads_append : (s more : List Event) (w : World) (n : ℕ) → reads w (s ++ more) n ≡ reads w s n + reads (run w s) more n
reads_append [] more w n = omega arith
reads_append (e ∷ s) more w n = omega (arith, reads_append s more (happens w e) n)

pub loads_append : (s more : List Event) (w : World) (n : ℕ) → generations_loaded w (s ++ more) n ≡ generations_loaded w s n ++ generations_loaded (run w s) more n
loads_append [] more w n = refl
loads_append (e ∷ s) more w n = ap (λ l. loaded_by (acts w e) n ++ l) (loads_append s more (happens w e) n) ∙ sym (append_assoc (loaded_by (acts w e) n) (generations_loaded (happens w e) s n) (generations_loaded (run (happens w e) s) more n))

pub beginnings_append : (s more : List Event) (w : World) (n : ℕ) → beginnings w (s ++ more) n ≡ beginnings w s n ++ beginnings (run w s) more n
beginnings_append [] more w n = refl
beginnings_append (e ∷ s) more w n = ap (λ l. begun_by (acts w e) e n ++ l) (beginnings_append s more (happens w e) n) ∙ sym (append_assoc (begun_by (acts w e) e n) (beginnings (happens w e) s n) (beginnings (run (happens w e) s) more n))

pub or_assoc : (a b c : Bool) → (a || (b || c)) ≡ ((a || b) || c)
or_assoc true b c = refl
or_assoc false b c = refl

pub has_later_append : (k : Phase → Answer → Bool) (s more : List Event) (w : World) (n : ℕ) → has_later k w (s ++ more) n ≡ (has_later k w s n || has_later k (run w s) more n)
has_later_append k [] more w n = refl
has_later_append k (e ∷ s) more w n = ap (λ l. answers_so k (acts w e) n || l) (has_later_append k s more (happens w e) n) ∙ or_assoc (answers_so k (acts w e) n) (has_later k (happens w e) s n) (has_later k (run (happens w e) s) more n)

-- At the end of a schedule

pub after_snoc : (f : ℕ) (s : List Event) (x : Event) → after f (s ++ x ∷ []) ≡ happens (after f s) x
after_snoc f s x = run_append s (x ∷ []) (empty f)

pub turn_after : (f : ℕ) (s : List Event) (x : Event) → Turn (after f s) x (acts (after f s) x) (after f (s ++ x ∷ [])) (finishes (after f s) x)
turn_after f s x = rw (after_snoc f s x) (turn (after f s) x)

pub placed_snoc : (f : ℕ) (s : List Event) (x : Event) → placed (empty f) (s ++ x ∷ []) ≡ placed (empty f) s ++ placed_by (acts (after f s) x)
placed_snoc f s x = placed_append s (x ∷ []) (empty f) ∙ ap (λ l. placed (empty f) s ++ l) (append-none (placed_by (acts (after f s) x)))

pub replies_snoc : (f : ℕ) (s : List Event) (x : Event) → replies (empty f) (s ++ x ∷ []) ≡ replies (empty f) s ++ option_to_list (finishes (after f s) x)
replies_snoc f s x = replies_append s (x ∷ []) (empty f) ∙ ap (λ l. replies (empty f) s ++ l) (append-none (option_to_list (finishes (after f s) x)))

pub added_snoc : (f : ℕ) (s : List Event) (x : Event) → added (empty f) (s ++ x ∷ []) ≡ added (empty f) s + added_by (acts (after f s) x)
added_snoc f s x = omega (arith, added_append s (x ∷ []) (empty f))

pub reads_snoc : (f : ℕ) (s : List Event) (x : Event) (n : ℕ) → reads (empty f) (s ++ x ∷ []) n ≡ reads (empty f) s n + read_by (acts (after f s) x) x n
reads_snoc f s x n = omega (arith, reads_append s (x ∷ []) (empty f) n)

pub loads_snoc : (f : ℕ) (s : List Event) (x : Event) (n : ℕ) → generations_loaded (empty f) (s ++ x ∷ []) n ≡ generations_loaded (empty f) s n ++ loaded_by (acts (after f s) x) n
loads_snoc f s x n = loads_append s (x ∷ []) (empty f) n ∙ ap (λ l. generations_loaded (empty f) s n ++ l) (append-none (loaded_by (acts (after f s) x) n))

pub beginnings_snoc : (f : ℕ) (s : List Event) (x : Event) (n : ℕ) → beginnings (empty f) (s ++ x ∷ []) n ≡ beginnings (empty f) s n ++ begun_by (acts (after f s) x) x n
beginnings_snoc f s x n = beginnings_append s (x ∷ []) (empty f) n ∙ ap (λ l. beginnings (empty f) s n ++ l) (append-none (begun_by (acts (after f s) x) x n))

pub or_false : (b : Bool) → (b || false) ≡ b
or_false true = refl
or_false false = refl

pub later_snoc : (k : Phase → Answer → Bool) (w : World) (s : List Event) (x : Event) (n : ℕ) → has_later k w (s ++ x ∷ []) n ≡ (has_later k w s n || answers_so k (acts (run w s) x) n)
later_snoc k w s x n = has_later_append k s (x ∷ []) w n ∙ ap (λ b. has_later k w s n || b) (or_false (answers_so k (acts (run w s) x) n))

-- what holds at the start and is kept by each further event holds of every schedule
pub by_snoc_from : (P : List Event → Type 0) → ((s : List Event) (x : Event) → P s → P (s ++ x ∷ [])) → (es s : List Event) → P s → P (s ++ es)
by_snoc_from P k [] s h = rw append-none h
by_snoc_from P k (x ∷ es) s h = subst P (append_assoc s (x ∷ []) es) (by_snoc_from P k es (s ++ x ∷ []) (k s x h))

pub by_snoc : (P : List Event → Type 0) → P [] → ((s : List Event) (x : Event) → P s → P (s ++ x ∷ [])) → (s : List Event) → P s
by_snoc P z k s = by_snoc_from P k s [] z

-- Taken events

-- the event that is taken now
abbrev pub taken_now : (f : ℕ) (s : List Event) (x : Event) (n : ℕ) (c : Call) (a : Answer) → acts (after f s) x ≡ Some (Goes c a) → c.number ≡ n → TakenEvent f (s ++ x ∷ []) n
taken_now f s x n c a h e = record { before = s; event = x; rest = []; split = refl; call = c; found = a; taken = h; own = e }

-- an event that was taken stays so
abbrev pub taken_later : (f : ℕ) (s : List Event) (n : ℕ) → TakenEvent f s n → (x : Event) → TakenEvent f (s ++ x ∷ []) n
taken_later f s n t x = record { before = t.before; event = t.event; rest = t.rest ++ x ∷ []; split = ap (λ l. l ++ x ∷ []) t.split ∙ append_assoc t.before (t.event ∷ t.rest) (x ∷ []); call = t.call; found = t.found; taken = t.taken; own = t.own }

-- the world just after a taken event, run over the rest
pub after_taken : (f : ℕ) (s : List Event) (n : ℕ) (t : TakenEvent f s n) → run (after f (t.before ++ t.event ∷ [])) t.rest ≡ after f s
after_taken f s n t = rw (t.split, after_snoc f t.before t.event) (sym (run_append t.before (t.event ∷ t.rest) (empty f)))
