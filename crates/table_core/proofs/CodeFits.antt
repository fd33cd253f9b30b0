-- What an event finds in a world that was reached: the answer fits, and the table can be changed so.
use Rattle.std.proofs.Common.{ℕ, ◌≡◌, ◌-◌, ◌<◌, ◌≤◌, ◌++◌, List, [], ◌∷◌, true, refl, Option, Some, length, sym, subst, ap, arith, ◌∙◌}
use Rattle.std.specs.Prelude.{nat_lt, slice_set}
use Rattle.std.specs.List.{slice_get}
use Rattle.std.proofs.lemmas.Bool.{lt-ltb}
use Rattle.table_core.specs.Replies.{Reply, Finished}
use Rattle.table_core.specs.Generations.{Gen, Table, current}
use Rattle.table_terms.specs.Capacities.{IsFirstCapacity}
use Rattle.table_core.specs.Calls.{Call, fits, stands_at_bucket, holds_shared, decided, decide}
use Rattle.table_core.specs.Machine.{World, empty, finds, finds_in, walked_gen, happens, list_in, changed, call_after, reply}
use Rattle.table_core.specs.History.{replies, placed}
use Rattle.table_core.specs.Steps.{Row, loads, puts, adds, begins_first, begins_next, copies, looks, len_loads, walk_loads}
use Rattle.table_core.specs.Reached.{IsReached, CanChange, moved, reply_to}
use Rattle.table_core.specs.declared.event.Event.{Event}
use Rattle.table_core.specs.declared.event.Event.TheVariants.{Read}
use Rattle.table_core.specs.declared.call.CallState.{CallState}
use Rattle.table_core.specs.declared.call.Phase.{Phase}
use Rattle.table_core.specs.declared.call.Phase.TheVariants.{Probe, AtEmpty, Placed, AskSize, LookProbe, LenSize, WalkAt}
use Rattle.table_core.specs.declared.call.Answer.{Answer}
use Rattle.table_core.specs.Bound.{one_if}
use Rattle.table_core.proofs.Facts.{Inv, AllSeated, Tracked, Walking, probing, measuring, is_walking, SizesOk, placers, is_placed}
use Rattle.table_core.proofs.Lists.{weigh-get}
use Rattle.table_core.proofs.Standing.{IsLast, CallOk}
use Rattle.table_core.proofs.Contents.{nothing_built, stand_at}
use Rattle.table_core.proofs.Seats.{first_empty_way, copy_room}
use Rattle.table_core.proofs.Tracks.{at_bucket}
use Rattle.table_core.proofs.Rows.{row}
use Rattle.table_core.proofs.Invariant.{inv}
use Rattle.table_core.proofs.Pasts.{run_append}
use Rattle.table_core.proofs.CodeSteps.{decide_fits}
use Rattle.table_core.proofs.Pasts.{run_append}

in_walk : (gens : List Gen) (c : Call) → Walking gens c → nat_lt c.state.index c.state.capacity ≡ true
in_walk gens c p = let q = p.below in let e = p.capacity in lt-ltb c.state.index c.state.capacity (omega arith)

probe_fits : (w : World) (c : Call) (p : Phase) → c.state.phase ≡ p → probing p ≡ true → Tracked w.table.gens c → stands_at_bucket c.state ≡ true
probe_fits w c p e h t = at_bucket w.table.gens c (t.probes (ap probing e ∙ h))

walk_fits : (w : World) (c : Call) → c.state.phase ≡ WalkAt → Tracked w.table.gens c → nat_lt c.state.index c.state.capacity ≡ true
walk_fits w c e t = in_walk w.table.gens c (t.walks (ap is_walking e))

size_fits : (w : World) (c : Call) (p : Phase) → c.state.phase ≡ p → measuring p ≡ true → Tracked w.table.gens c → nat_lt 0 c.state.capacity ≡ true
size_fits w c p e h t = lt-ltb 0 c.state.capacity (t.measures (ap measuring e ∙ h))

loaded_fits : (w : World) (g : Gen) → AllSeated w → current w.table ≡ Some g → nat_lt 0 g.capacity ≡ true
loaded_fits w g s h = lt-ltb 0 g.capacity (s.gens (length w.table.gens - 1) g h).roomy

-- what a row finds fits
fits_row : (w : World) (c : Call) {p : Phase} {x : Event} {a : Answer} {r : CallState} {ls : List ℕ} {t : Table} {q : Option Reply} → Row w c p x a r ls t q → c.state.phase ≡ p → AllSeated w → Tracked w.table.gens c → fits p c.state a ≡ true
fits_row w c (loads n g h) e s k = loaded_fits w g s h
fits_row w c (looks n g h) e s k = loaded_fits w g s h
fits_row w c (len_loads n g h) e s k = loaded_fits w g s h
fits_row w c (walk_loads n g h) e s k = loaded_fits w g s h
fits_row w c {p = Probe} _ e s k = probe_fits w c Probe e refl k
fits_row w c {p = AtEmpty} _ e s k = probe_fits w c AtEmpty e refl k
fits_row w c {p = LookProbe} _ e s k = probe_fits w c LookProbe e refl k
fits_row w c {p = Placed} _ e s k = k.stands (ap is_placed e)
fits_row w c {p = AskSize} _ e s k = size_fits w c AskSize e refl k
fits_row w c {p = LenSize} _ e s k = size_fits w c LenSize e refl k
fits_row w c {p = WalkAt} _ e s k = walk_fits w c e k
fits_row w c _ e s k = refl

-- an entry that its call has still to count
uncounted : (w : World) (i : ℕ) (c : Call) → slice_get w.calls i ≡ Some c → c.state.phase ≡ Placed → CallOk (length w.table.gens) c → SizesOk w → (g : Gen) → walked_gen w.table c.state ≡ Some g → g.size < length g.entries
uncounted w i c h p k z g e =
    let l : IsLast (length w.table.gens) c.state.walked = stand_at c _ Placed k p refl in
    let y : slice_get w.table.gens l.0 ≡ Some g = rw l.1 at e in
    let n : length w.table.gens - 1 ≡ l.0 = omega (arith, l.2) in
    let q : current w.table ≡ Some g = rw n y in
    let one : one_if (is_placed c.state.phase) ≤ placers w.calls = weigh-get (λ (c : Call). one_if (is_placed c.state.phase)) w.calls i c h in
    let o : 1 ≤ placers w.calls = rw p at one in
    omega (arith, z.counted g q)

-- a row's change can be made
change_row : (w : World) (m : List ℕ) (rs : List Finished) (i : ℕ) (c : Call) {p : Phase} {x : Event} {a : Answer} {r : CallState} {ls : List ℕ} {t : Table} {q : Option Reply} → Row w c p x a r ls t q → c.state.phase ≡ p → slice_get w.calls i ≡ Some c → Inv w m rs → CanChange w.table c x a
change_row w m rs i c (puts n y h) e g v = (h, nothing_built w v.locked i c g (ap holds_shared e))
change_row w m rs i c (adds n) e g v = (nothing_built w v.locked i c g (ap holds_shared e), uncounted w i c g e (v.calls.at i c g) v.sized)
change_row w m rs i c (begins_first n h) e g v = rw h refl
change_row w m rs i c (begins_next n d h k l) e g v = rw (h, k, l) refl
change_row w m rs i c (copies n hash d h) e g v = λ b q.
    (first_empty_way b.gen hash (copy_room w.table m (length m) (current w.table) b d refl q (rw q at h) v.holding v.roomy (λ y z. v.seated.gens (length w.table.gens - 1) y z))).1
change_row w m rs i c _ e g v = tt

-- the invariant of a world that was reached
pub reached_inv : (w : World) → (r : IsReached w) → Inv w (placed (empty r.first) r.schedule) (replies (empty r.first) r.schedule)
reached_inv w r = subst (λ z. Inv z (placed (empty r.first) r.schedule) (replies (empty r.first) r.schedule)) r.leads (inv r.first r.allowed r.schedule)

pub found_fits : (w : World) (i : ℕ) (c : Call) (x : Event) (a : Answer) → IsReached w → slice_get w.calls i ≡ Some c → finds w c.state x ≡ Some a → fits c.state.phase c.state a ≡ true
found_fits w i c x a r h f = let v = reached_inv w r in fits_row w c (row w c c.state.phase x a f) refl v.seated (v.tracked.at i c h)

pub found_changes : (w : World) (i : ℕ) (c : Call) (x : Event) (a : Answer) → IsReached w → slice_get w.calls i ≡ Some c → finds w c.state x ≡ Some a → CanChange w.table c x a
found_changes w i c x a r h f = change_row w _ _ i c (row w c c.state.phase x a f) refl h (reached_inv w r)

pub reached_next : (w : World) (x : Event) → IsReached w → IsReached (happens w x)
reached_next w x r = record {
  first = r.first;
  allowed = r.allowed;
  schedule = r.schedule ++ x ∷ [];
  leads = run_append r.schedule (x ∷ []) (empty r.first) ∙ ap (λ z. happens z x) r.leads;
}

pub reached_empty : (f : ℕ) → IsFirstCapacity f → IsReached (empty f)
reached_empty f h = record { first = f; allowed = h; schedule = []; leads = refl }

-- One event at the place of its call

list_other : (p : Phase) (t : Table) (c : Call) (a : Answer) → (p ≡ WalkAt → ⊥) → list_in p t c a ≡ c.list
list_other WalkAt t c a n = absurd (n refl)
list_other _ t c a n = refl

walk_keeps : (w : World) (c : Call) (x : Event) (a : Answer) → finds_in WalkAt w c.state x ≡ Some a → changed w.table c x a ≡ w.table
walk_keeps w c (Read n y) a f = refl
walk_keeps w c _ a f = absurd (cc)

-- what a call finds is found in the state that it has
pub finds_same : (w v : World) (s r : CallState) (x : Event) (o : Option Answer) (a : Answer) → w ≡ v → s ≡ r → o ≡ finds v s x → o ≡ Some a → finds w r x ≡ Some a
finds_same w v s r x o a e q f g = ap (λ z. finds z r x) e ∙ ap (λ z. finds v z x) (sym q) ∙ sym f ∙ g

-- a call stands once at its place
pub same_call : (cs : List Call) (i : ℕ) (c d : Call) → slice_get cs i ≡ Some c → slice_get cs i ≡ Some d → c ≡ d
same_call cs i c d h k = let z : Some c ≡ Some d = sym h ∙ k in cc

-- the state that was read at a place is that of its call, and so is what was found in it
pub found_at : (w v : World) (i : ℕ) (c d : Call) (s : CallState) (x : Event) (o : Option Answer) (a : Answer) → w ≡ v → slice_get w.calls i ≡ Some c → s ≡ c.state → o ≡ finds v s x → o ≡ Some a → slice_get w.calls i ≡ Some d → (s ≡ d.state) × (finds w d.state x ≡ Some a)
found_at w v i c d s x o a e h k q f g =
    let r : s ≡ d.state = k ∙ ap (λ (y : Call). y.state) (same_call w.calls i c d h g) in
    (r, finds_same w v s d.state x o a e r q f)

-- a walk has moved
pub go_walk : (w v : World) (i : ℕ) (c : Call) (x : Event) (a : Answer) (now : List Call) → w ≡ v → c.state.phase ≡ WalkAt → finds w c.state x ≡ Some a → now ≡ slice_set w.calls i (call_after w.table c a) →
    record { table = w.table; calls = now } ≡ moved v i c x (finds v c.state x)
go_walk w v i c x a now q e f n =
    let k : changed w.table c x a ≡ w.table = walk_keeps w c x a (ap (λ p. finds_in p w c.state x) (sym e) ∙ f) in
    ap (λ cs. record { table = w.table; calls = cs }) n ∙ ap (λ t. record { table = t; calls = slice_set w.calls i (call_after w.table c a) }) (sym k)
    ∙ ap (moved w i c x) (sym f) ∙ ap (λ z. moved z i c x (finds z c.state x)) q

pub go_told : (w v : World) (c : Call) (x : Event) (a : Answer) (o : Option Reply) → w ≡ v → finds w c.state x ≡ Some a → o ≡ reply w.table c a → o ≡ reply_to v c (finds v c.state x)
go_told w v c x a o q f e = e ∙ ap (reply_to w c) (sym f) ∙ ap (λ z. reply_to z c (finds z c.state x)) q

-- another call has moved
pub go_other : (w v : World) (i : ℕ) (c : Call) (x : Event) (a : Answer) (table : Table) (calls : List Call) (n : CallState) → w ≡ v → (c.state.phase ≡ WalkAt → ⊥) → finds w c.state x ≡ Some a → fits c.state.phase c.state a ≡ true →
    table ≡ changed w.table c x a → n ≡ decide c.state a → calls ≡ slice_set w.calls i (record c { state = n }) →
    record { table = table; calls = calls } ≡ moved v i c x (finds v c.state x)
go_other w v i c x a table calls n q e f h t m k =
    let s : record c { state = n } ≡ call_after w.table c a =
    ap (λ z. record c { state = z }) (m ∙ decide_fits c.state a h) ∙ ap (λ l. record c { list = l; state = decided c.state.phase c.state a }) (sym (list_other c.state.phase w.table c a e)) in
    ap (λ z. record { table = z; calls = calls }) t ∙ ap (λ cs. record { table = changed w.table c x a; calls = cs }) (k ∙ ap (slice_set w.calls i) s)
    ∙ ap (moved w i c x) (sym f) ∙ ap (λ z. moved z i c x (finds z c.state x)) q
