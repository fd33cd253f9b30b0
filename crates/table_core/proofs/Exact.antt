-- Each row of the table of events is what the machine does.
use Rattle.std.proofs.Common.{ℕ, ◌≡◌, ◌^◌, ◌++◌, List, [], ◌∷◌, Bool, true, false, refl, Option, Some, None, ap, ◌∙◌}
use Rattle.std.specs.Prelude.{◌==◌, ◌&&◌, if◌then◌else◌, not}
use Rattle.table_core.specs.Replies.{Reply, Finished}
use Rattle.table_core.specs.Generations.{Table}
use Rattle.table_terms.specs.Hashes.{bits_of}
use Rattle.table_core.specs.Calls.{Call, starts, is_used, call_numbered, replaced, decided}
use Rattle.table_core.specs.Machine.{World, finds_in, finds, changed, reply_in, list_in, number_of, in_range, Act, Begins, Goes, acts, after_act, happens, finished_call, finished_by, finishes}
use Rattle.table_core.specs.declared.event.Event.{Event}
use Rattle.table_core.specs.declared.call.CallState.{CallState}
use Rattle.table_core.specs.declared.call.Phase.{Phase}
use Rattle.table_core.specs.declared.call.Answer.{Answer}
use Rattle.table_core.specs.declared.call.Answer.TheVariants.{Holds, HoldsUnasked, Begun, Failed}
use Rattle.table_core.specs.Machine.{call_acts}
use Rattle.table_core.specs.Steps.{IsTheStep, OnlyStep, moves_lock, HoldsAsBefore, LockStays, Row, shares, loads_none, loads, reads_empty, meets, turns, turns_unasked, goes_on, goes_on_unasked, memory_refused, puts, loses_meets, loses_turns, loses_turns_unasked, loses_goes_on, loses_goes_on_unasked, adds, leaves_ok, leaves_grow, leaves_refused, large, small, owns, begins_first, fails_first, unwanted, fails_largest, fails_refused, begins_next, copies, shows, ends, starts_over, ends_failed, gives_up, tries_again, looks_none, looks, look_empty, look_meets, look_turns, look_turns_unasked, look_goes_on, look_goes_on_unasked, len_none, len_loads, len_size, walk_none, walk_loads, walk_skips_last, walk_takes_last, walk_skips, walk_takes, Opens, opens_insert, opens_lookup, opens_len, opens_walk, IsNewValue, left, Takes, Step, moves, stays, begins, goes}
use Rattle.table_core.specs.Openings.{opening}
use Rattle.table_core.proofs.CodeEvents.{not_opened}
use Rattle.table_core.proofs.Rows.{StepsBy, steps}

never_begins : (m : Bool) → (if m && not ((2 ^ 63) == (2 ^ 63)) then Begun else Failed) ≡ Failed
never_begins true = refl
never_begins false = refl

-- what a set bucket shows that is accepted, declined, or differs
shows_yes : (agree y : Bool) → (agree && y) ≡ true → (if agree then Holds y else HoldsUnasked) ≡ Holds true
shows_yes true true h = refl
shows_yes true false h = absurd (cc)
shows_yes false y h = absurd (cc)

shows_no : (agree y : Bool) → (agree && not y) ≡ true → (if agree then Holds y else HoldsUnasked) ≡ Holds false
shows_no true false h = refl
shows_no true true h = absurd (cc)
shows_no false y h = absurd (cc)

shows_nothing : (agree y : Bool) → not agree ≡ true → (if agree then Holds y else HoldsUnasked) ≡ HoldsUnasked
shows_nothing true y h = absurd (cc)
shows_nothing false y h = refl

-- what an event finds where a row takes the call, and by it the call, its list, the table and what is told
pub record IsTaken (w : World) (c : Call) (p : Phase) (x : Event) (a : Answer) (s : CallState) (list : List ℕ) (t : Table) (o : Option Reply) : Type 0 where
  pub finds : finds_in p w c.state x ≡ Some a
  pub decides : decided p c.state a ≡ s
  pub keeps : list_in p w.table c a ≡ list
  pub changes : changed w.table c x a ≡ t
  pub tells : reply_in p w.table c a ≡ o

-- the machine takes each row of the table of events
pub taken : {w : World} {c : Call} {p : Phase} {x : Event} {a : Answer} {s : CallState} {list : List ℕ} {t : Table} {o : Option Reply} → Row w c p x a s list t o → IsTaken w c p x a s list t o
taken {w = w} {c = c} (shares n h) = record { finds = rw h refl; decides = refl; keeps = refl; changes = refl; tells = refl }
taken {w = w} {c = c} (loads_none n h) = record { finds = rw h refl; decides = refl; keeps = refl; changes = refl; tells = refl }
taken {w = w} {c = c} (loads n g h) = record { finds = rw h refl; decides = refl; keeps = refl; changes = refl; tells = refl }
taken {w = w} {c = c} (reads_empty n y h) = record { finds = rw h refl; decides = refl; keeps = refl; changes = refl; tells = refl }
taken {w = w} {c = c} (meets n y e h f) = record { finds = rw h (ap Some (shows_yes (e.bits == bits_of c.state.hash) y f)); decides = refl; keeps = refl; changes = refl; tells = refl }
taken {w = w} {c = c} (turns n y e h f g) = record { finds = rw h (ap Some (shows_no (e.bits == bits_of c.state.hash) y f)); decides = rw g refl; keeps = refl; changes = refl; tells = rw g refl }
taken {w = w} {c = c} (turns_unasked n y e h f g) = record { finds = rw h (ap Some (shows_nothing (e.bits == bits_of c.state.hash) y f)); decides = rw g refl; keeps = refl; changes = refl; tells = rw g refl }
taken {w = w} {c = c} (goes_on n y e h f g) = record { finds = rw h (ap Some (shows_no (e.bits == bits_of c.state.hash) y f)); decides = rw g refl; keeps = refl; changes = refl; tells = rw g refl }
taken {w = w} {c = c} (goes_on_unasked n y e h f g) = record { finds = rw h (ap Some (shows_nothing (e.bits == bits_of c.state.hash) y f)); decides = rw g refl; keeps = refl; changes = refl; tells = rw g refl }
taken {w = w} {c = c} (memory_refused n y) = record { finds = refl; decides = refl; keeps = refl; changes = refl; tells = refl }
taken {w = w} {c = c} (puts n y h) = record { finds = rw h refl; decides = refl; keeps = refl; changes = refl; tells = refl }
taken {w = w} {c = c} (loses_meets n y e h f) = record { finds = rw h (ap Some (shows_yes (e.bits == bits_of c.state.hash) y f)); decides = refl; keeps = refl; changes = refl; tells = refl }
taken {w = w} {c = c} (loses_turns n y e h f g) = record { finds = rw h (ap Some (shows_no (e.bits == bits_of c.state.hash) y f)); decides = rw g refl; keeps = refl; changes = refl; tells = rw g refl }
taken {w = w} {c = c} (loses_turns_unasked n y e h f g) = record { finds = rw h (ap Some (shows_nothing (e.bits == bits_of c.state.hash) y f)); decides = rw g refl; keeps = refl; changes = refl; tells = rw g refl }
taken {w = w} {c = c} (loses_goes_on n y e h f g) = record { finds = rw h (ap Some (shows_no (e.bits == bits_of c.state.hash) y f)); decides = rw g refl; keeps = refl; changes = refl; tells = rw g refl }
taken {w = w} {c = c} (loses_goes_on_unasked n y e h f g) = record { finds = rw h (ap Some (shows_nothing (e.bits == bits_of c.state.hash) y f)); decides = rw g refl; keeps = refl; changes = refl; tells = rw g refl }
taken {w = w} {c = c} (adds n) = record { finds = refl; decides = refl; keeps = refl; changes = refl; tells = refl }
taken {w = w} {c = c} (leaves_ok n) = record { finds = refl; decides = refl; keeps = refl; changes = refl; tells = refl }
taken {w = w} {c = c} (leaves_grow n) = record { finds = refl; decides = refl; keeps = refl; changes = refl; tells = refl }
taken {w = w} {c = c} (leaves_refused n) = record { finds = refl; decides = refl; keeps = refl; changes = refl; tells = refl }
taken {w = w} {c = c} (large n g h f) = record { finds = rw h refl; decides = rw f refl; keeps = refl; changes = refl; tells = rw f refl }
taken {w = w} {c = c} (small n g h f) = record { finds = rw h refl; decides = rw f refl; keeps = refl; changes = refl; tells = rw f refl }
taken {w = w} {c = c} (owns n h) = record { finds = rw h refl; decides = refl; keeps = refl; changes = refl; tells = refl }
taken {w = w} {c = c} (begins_first n h) = record { finds = rw h refl; decides = refl; keeps = refl; changes = refl; tells = refl }
taken {w = w} {c = c} (fails_first n h) = record { finds = rw h refl; decides = refl; keeps = refl; changes = refl; tells = refl }
taken {w = w} {c = c} (unwanted n m g h f) = record { finds = rw (h, f) refl; decides = refl; keeps = refl; changes = refl; tells = refl }
taken {w = w} {c = c} (fails_largest n m g h f k) = record { finds = rw (h, f, k) (ap Some (never_begins m)); decides = refl; keeps = refl; changes = refl; tells = refl }
taken {w = w} {c = c} (fails_refused n g h f) = record { finds = rw (h, f) refl; decides = refl; keeps = refl; changes = refl; tells = refl }
taken {w = w} {c = c} (begins_next n g h f k) = record { finds = rw (h, f, k) refl; decides = refl; keeps = refl; changes = refl; tells = refl }
taken {w = w} {c = c} (copies n k e h) = record { finds = rw h refl; decides = refl; keeps = refl; changes = rw h refl; tells = refl }
taken {w = w} {c = c} (shows n h) = record { finds = rw h refl; decides = refl; keeps = refl; changes = refl; tells = refl }
taken {w = w} {c = c} (ends n h) = record { finds = refl; decides = rw h refl; keeps = refl; changes = refl; tells = rw h refl }
taken {w = w} {c = c} (starts_over n h) = record { finds = refl; decides = rw h refl; keeps = refl; changes = refl; tells = rw h refl }
taken {w = w} {c = c} (ends_failed n h) = record { finds = refl; decides = rw h refl; keeps = refl; changes = refl; tells = rw h refl }
taken {w = w} {c = c} (gives_up n h k) = record { finds = rw k refl; decides = rw h refl; keeps = refl; changes = refl; tells = rw h refl }
taken {w = w} {c = c} (tries_again n h k) = record { finds = rw k refl; decides = rw h refl; keeps = refl; changes = refl; tells = rw h refl }
taken {w = w} {c = c} (looks_none n h) = record { finds = rw h refl; decides = refl; keeps = refl; changes = refl; tells = refl }
taken {w = w} {c = c} (looks n g h) = record { finds = rw h refl; decides = refl; keeps = refl; changes = refl; tells = refl }
taken {w = w} {c = c} (look_empty n y h) = record { finds = rw h refl; decides = refl; keeps = refl; changes = refl; tells = refl }
taken {w = w} {c = c} (look_meets n y e h f) = record { finds = rw h (ap Some (shows_yes (e.bits == bits_of c.state.hash) y f)); decides = refl; keeps = refl; changes = refl; tells = rw h refl }
taken {w = w} {c = c} (look_turns n y e h f g) = record { finds = rw h (ap Some (shows_no (e.bits == bits_of c.state.hash) y f)); decides = rw g refl; keeps = refl; changes = refl; tells = rw g refl }
taken {w = w} {c = c} (look_turns_unasked n y e h f g) = record { finds = rw h (ap Some (shows_nothing (e.bits == bits_of c.state.hash) y f)); decides = rw g refl; keeps = refl; changes = refl; tells = rw g refl }
taken {w = w} {c = c} (look_goes_on n y e h f g) = record { finds = rw h (ap Some (shows_no (e.bits == bits_of c.state.hash) y f)); decides = rw g refl; keeps = refl; changes = refl; tells = rw g refl }
taken {w = w} {c = c} (look_goes_on_unasked n y e h f g) = record { finds = rw h (ap Some (shows_nothing (e.bits == bits_of c.state.hash) y f)); decides = rw g refl; keeps = refl; changes = refl; tells = rw g refl }
taken {w = w} {c = c} (len_none n h) = record { finds = rw h refl; decides = refl; keeps = refl; changes = refl; tells = refl }
taken {w = w} {c = c} (len_loads n g h) = record { finds = rw h refl; decides = refl; keeps = refl; changes = refl; tells = refl }
taken {w = w} {c = c} (len_size n g h) = record { finds = rw h refl; decides = refl; keeps = refl; changes = refl; tells = refl }
taken {w = w} {c = c} (walk_none n h) = record { finds = rw h refl; decides = refl; keeps = refl; changes = refl; tells = refl }
taken {w = w} {c = c} (walk_loads n g h) = record { finds = rw h refl; decides = refl; keeps = refl; changes = refl; tells = refl }
taken {w = w} {c = c} (walk_skips_last n y h g) = record { finds = rw h refl; decides = rw g refl; keeps = rw g refl; changes = refl; tells = rw g refl }
taken {w = w} {c = c} (walk_takes_last n y e h g) = record { finds = rw h refl; decides = rw g refl; keeps = rw g refl; changes = refl; tells = rw (g, h) refl }
taken {w = w} {c = c} (walk_skips n y h g) = record { finds = rw h refl; decides = rw g refl; keeps = rw g refl; changes = refl; tells = rw g refl }
taken {w = w} {c = c} (walk_takes n y e h g) = record { finds = rw h refl; decides = rw g refl; keeps = rw (g, h) refl; changes = refl; tells = rw g refl }

begins_so : (w : World) {x : Event} {n : ℕ} {v : Option ℕ} {p : Phase} {h : ℕ} → Opens x n v p h → in_range x ≡ true → is_used n w.calls ≡ false → IsNewValue w.calls v → acts w x ≡ Some (Begins (starts n v p h))
begins_so w (opens_insert n v h) r u f = rw (r, u, f) refl
begins_so w (opens_lookup n h) r u f = rw (r, u) refl
begins_so w (opens_len n) r u f = rw (r, u) refl
begins_so w (opens_walk n) r u f = rw (r, u) refl

-- the event of a row begins no call
row_moves : (w : World) (c : Call) {p : Phase} {x : Event} {a : Answer} {s : CallState} {ls : List ℕ} {t : Table} {o : Option Reply} → Row w c p x a s ls t o → opening x ≡ None
row_moves w c (shares n h) = refl
row_moves w c _ = refl

goes_so : (w : World) (c : Call) {p : Phase} {x : Event} {a : Answer} {s : CallState} {ls : List ℕ} {t : Table} {o : Option Reply} → Row w c p x a s ls t o → in_range x ≡ true → call_numbered (number_of x) w.calls ≡ Some c → finds w c.state x ≡ Some a → acts w x ≡ Some (Goes c a)
goes_so w c {x = x} {a = a} row r h f =
    let e : call_acts w (call_numbered (number_of x) w.calls) x ≡ Some (Goes c a) = rw (h, f) refl in
    rw r (not_opened w x (row_moves w c row) ∙ e)

-- the machine does whatever the table of events says
pub acts_so : (w : World) {x : Event} {a : Act} {v : World} {r : Option Finished} → Takes w x a v r → acts w x ≡ Some a
acts_so w (begins n v p h r o u f) = begins_so w o r u f
acts_so w {x = x} (goes c p a s ls t o r h e row) = goes_so w c row r h (ap (λ z. finds_in z w c.state x) e ∙ (taken row).finds)

step_as : (w : World) (x : Event) (o : Option Act) → acts w x ≡ o → StepsBy w x o → Step w x o (after_act w x o) (finished_by w o)
step_as w x None e t = stays (λ a v r k. let z : acts w x ≡ Some a = acts_so w k in absurd (cc))
step_as w x (Some a) e t = moves a _ _ t

-- the machine takes exactly the steps of the table of events
pub step : (w : World) (x : Event) → Step w x (acts w x) (happens w x) (finishes w x)
step w x = step_as w x (acts w x) refl (steps w x)

pub only_begins : (w : World) {x : Event} {n : ℕ} {v : Option ℕ} {p : Phase} {h : ℕ} → acts w x ≡ Some (Begins (starts n v p h)) → IsTheStep w x (Begins (starts n v p h)) (record w { calls = w.calls ++ starts n v p h ∷ [] }) None
only_begins w {x = x} e = record { does = e; leads = ap (after_act w x) e; tells = ap (finished_by w) e }

pub only_goes : (w : World) {c : Call} {p : Phase} {x : Event} {a : Answer} {s : CallState} {list : List ℕ} {t : Table} {o : Option Reply} → c.state.phase ≡ p → acts w x ≡ Some (Goes c a) → IsTaken w c p x a s list t o → IsTheStep w x (Goes c a) (record { table = t; calls = replaced (left c s list) w.calls }) (finished_call c.number o)
only_goes w {c = c} {x = x} {a = a} ph e k =
    let d : decided c.state.phase c.state a ≡ _ = ap (λ z. decided z c.state a) ph ∙ k.decides in
    let l : list_in c.state.phase w.table c a ≡ _ = ap (λ z. list_in z w.table c a) ph ∙ k.keeps in
    let q : reply_in c.state.phase w.table c a ≡ _ = ap (λ z. reply_in z w.table c a) ph ∙ k.tells in
    record {
      does = e;
      leads = ap (after_act w x) e ∙ rw (k.changes, l, d) refl;
      tells = ap (finished_by w) e ∙ ap (finished_call c.number) q;
    }

-- what the table of events says is what happens
pub only_step : (w : World) (x : Event) (a : Act) (v : World) (r : Option Finished) → OnlyStep w x a v r
only_step w x a v r (begins n u p h ra o us f) = only_begins w (acts_so w (begins n u p h ra o us f))
only_step w x a v r (goes c p b s list t o ra h e row) = only_goes w e (acts_so w (goes c p b s list t o ra h e row)) (taken row)

pub holds_so : {w : World} {c : Call} {p : Phase} {x : Event} {a : Answer} {s : CallState} {list : List ℕ} {t : Table} {o : Option Reply} → Row w c p x a s list t o → moves_lock a ≡ false → HoldsAsBefore p s.phase
holds_so (shares _ _) h = absurd (cc)
holds_so (leaves_ok _) h = absurd (cc)
holds_so (leaves_grow _) h = absurd (cc)
holds_so (leaves_refused _) h = absurd (cc)
holds_so (owns _ _) h = absurd (cc)
holds_so (ends _ _) h = absurd (cc)
holds_so (starts_over _ _) h = absurd (cc)
holds_so (ends_failed _ _) h = absurd (cc)
holds_so (gives_up _ _ _) h = absurd (cc)
holds_so (tries_again _ _ _) h = absurd (cc)
holds_so _ h = record { shared = refl; owned = refl }

-- who holds the lock changes only by taking it and letting it go
pub lock_stays : (w : World) (c : Call) (p : Phase) (x : Event) (a : Answer) (s : CallState) (list : List ℕ) (t : Table) (o : Option Reply) → LockStays w c p x a s list t o
lock_stays w c p x a s list t o row = holds_so row
