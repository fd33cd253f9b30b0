-- Lawful schedules: what each call has missed, and how each entry is reached.
use Rattle.std.proofs.Common.{ℕ, suc, ◌≡◌, ◌+◌, ◌-◌, ◌%◌, ◌<◌, ◌≤◌, ◌++◌, inl, inr, List, [], ◌∷◌, Bool, true, false, refl, Option, Some, None, length, sym, subst, ap, arith, eqb, ◌∙◌}
use Rattle.std.specs.Prelude.{◌==◌, ◌&&◌, nat_lt, option_to_list}
use Rattle.std.specs.List.{slice_get}
use Rattle.table_core.proofs.Weights.{weigh, count_by-weigh}
use Rattle.table_core.specs.Replies.{Reply, Finished}
use Rattle.table_core.specs.Generations.{Gen, Build, Table, bucket, put_in, first_empty, fresh, fill, count, copy_in, last_of, current, gen_of, bucket_in, change_at, change, next_capacity, entries_of, entry_left, copy_on, built}
use Rattle.table_terms.specs.Hashes.{bits_of}
use Rattle.table_terms.specs.Probes.{bucket_at}
use Rattle.table_terms.specs.Capacities.{IsFirstCapacity}
use Rattle.table_core.specs.Phases.{stands}
use Rattle.table_core.specs.Calls.{Call, starts}
use Rattle.table_core.specs.Machine.{World, empty, bucket_of, place, begin_growth, Act, Goes, happens, run, after}
use Rattle.table_core.specs.History.{replies, placed_by, placed}
use Rattle.table_core.specs.Steps.{is_accepted, is_declined, is_unasked, turned, Row, shares, loads_none, loads, reads_empty, meets, turns, turns_unasked, goes_on, goes_on_unasked, puts, loses_meets, loses_turns, loses_turns_unasked, loses_goes_on, loses_goes_on_unasked, adds, leaves_grow, large, owns, begins_first, fails_first, unwanted, fails_largest, fails_refused, begins_next, copies, shows, looks, look_meets, look_goes_on, look_goes_on_unasked, len_loads, walk_loads, Opens, opens_insert, opens_lookup, opens_len, opens_walk, left}
use Rattle.table_core.specs.declared.event.Event.{Event}
use Rattle.table_core.specs.declared.event.Event.TheVariants.{Read, Put, Copy}
use Rattle.table_core.specs.declared.generation.Entry.{Entry}
use Rattle.table_core.specs.declared.call.CallState.{CallState}
use Rattle.table_core.specs.declared.call.Phase.{Phase}
use Rattle.table_core.specs.declared.call.Phase.TheVariants.{Shared, Probe, AtEmpty, LeaveGrow, WantOwned, Owned, Building, LeaveOwned, LeaveFailed, LookLoad, LookProbe, LenLoad, WalkLoad}
use Rattle.table_core.specs.declared.call.Outcome.TheVariants.{Existing}
use Rattle.table_core.specs.declared.call.Answer.{Answer}
use Rattle.table_core.proofs.Lists.{weigh-append, get-set, get-push}
use Rattle.table_core.proofs.Locks.{weigh-le, more}
use Rattle.std.proofs.lemmas.Bool.{ltb-false, eq-eqb, eqb-true}
use Rattle.std.proofs.Math.Nat.{mod-lt, add-mod-mod}
use Rattle.std.specs.Option.{is_some}
use Rattle.table_core.specs.Law.{Law, AsksBy, CopiesBy, UsesBy, OpensBy, ActsBy, RunsBy, IsLawful}
use Rattle.table_core.specs.Law.{accepts}
use Rattle.table_core.specs.Bound.{one_if}
use Rattle.table_core.specs.Lists.{PlacedApart}
use Rattle.table_core.proofs.Turns.{Turn, rests, opens, takes}
use Rattle.table_core.proofs.Pasts.{append-none, turn_after, placed_snoc, by_snoc}
use Rattle.table_core.proofs.Standing.{fitting, CallOk}
use Rattle.table_core.proofs.Facts.{In, IsSet, Holding, Grew, AllGrew, Seated, probing, Probing, wants_growth, Turned, Tracked, Way, Reached, Missed, is_asking, Judged, LawOk, Inv}
use Rattle.table_core.proofs.Contents.{order, in_put, in_bucket, in_get, put_stays, bucket_none, bucket_some, row_grew, fit_at, entry_of}
use Rattle.table_core.proofs.Seats.{first_empty_way, copy_room}
use Rattle.table_core.proofs.Tracks.{growth_from, asking_outcome, load_outcome, tracked_row}
use Rattle.table_core.proofs.Invariant.{inv}
use Rattle.table_core.proofs.Truth.{and-not, not-and}
use Rattle.std.proofs.lemmas.Bool.{and_parts, false_from_ne_true}
use Rattle.table_core.proofs.Sizes.{place_building}

-- What a probe misses

-- an accepted entry would be among those passed
pub passed_all : (l : Law) (c : Call) (g : Gen) (seen d : ℕ) (e : Entry) → Seated g → Missed l c g seen → In e g.entries → e.index ≡ bucket_at g.capacity c.state.hash d → d < seen → accepts l c e.value ≡ true → ⊥
passed_all l c g seen d e s p i t lt y =
    let a : bucket g.entries (bucket_at g.capacity c.state.hash d) ≡ Some e = rw (← t) (s.own e i) in
    let z : accepts l c e.value ≡ false = p.none d e lt a in
    cc

-- where the probe meets an empty bucket, no entry is accepted
pub misses_at_empty : (l : Law) (c : Call) (g : Gen) (seen : ℕ) → Seated g → Reached l g → Missed l c g seen → ((x : ℕ) → accepts l c x ≡ true → l.hash x ≡ c.state.hash) → bucket g.entries (bucket_at g.capacity c.state.hash seen) ≡ None → (e : Entry) → In e g.entries → accepts l c e.value ≡ false
misses_at_empty l c g seen u r p t n e i = false_from_ne_true _ (λ y.
    let h : l.hash e.value ≡ c.state.hash = t e.value y in
    let k : Way g.capacity g.entries c.state.hash e.index = rw h at (r.way e i) in
    elim (order k.steps seen) [
      | inl lt ↦ passed_all l c g seen k.steps e u p i k.there lt y
      | inr o ↦ elim o [
        | inl q ↦ (let a : bucket g.entries e.index ≡ Some e = u.own e i in let b : bucket g.entries e.index ≡ None = rw (k.there, q) n in cc)
        | inr gt ↦ (let s = k.set seen gt in let a : bucket g.entries (bucket_at g.capacity c.state.hash seen) ≡ Some s.0 = s.1 in cc)
      ]
    ])

-- after a whole turn, no entry is accepted
pub misses_at_turn : (l : Law) (c : Call) (g : Gen) (seen : ℕ) → Seated g → Reached l g → Missed l c g seen → ((x : ℕ) → accepts l c x ≡ true → l.hash x ≡ c.state.hash) → g.capacity ≤ seen → (e : Entry) → In e g.entries → accepts l c e.value ≡ false
misses_at_turn l c g seen u r p t n e i = false_from_ne_true _ (λ y.
    let h : l.hash e.value ≡ c.state.hash = t e.value y in
    let k : Way g.capacity g.entries c.state.hash e.index = rw h at (r.way e i) in
    let pos : 0 < g.capacity = u.roomy in
    let lt : k.steps % g.capacity < g.capacity = mod-lt k.steps pos in
    let there : e.index ≡ bucket_at g.capacity c.state.hash (k.steps % g.capacity) = k.there ∙ sym (add-mod-mod c.state.hash k.steps g.capacity) in
    passed_all l c g seen (k.steps % g.capacity) e u p i there (omega arith) y)

-- Generations that have grown

pub same_entry : (d e : Entry) (o : Option Entry) → o ≡ Some d → o ≡ Some e → d ≡ e
same_entry d e o h k = let x : Some d ≡ Some e = sym h ∙ k in cc

pub missed_grown : (l : Law) (c : Call) (g h : Gen) (n : ℕ) → Grew g h → ((j : ℕ) → j < n → IsSet g.entries (bucket_at g.capacity c.state.hash j)) → Missed l c g n → Missed l c h n
missed_grown l c g h n w s m = record {
  none = λ j e lt b.
      let f = s j lt in
      let k : bucket h.entries (bucket_at h.capacity c.state.hash j) ≡ Some f.0 = rw w.capacity (w.kept _ _ f.1) in
      let q : f.0 ≡ e = same_entry f.0 e _ k b in
      rw (← q) (m.none j f.0 lt f.1);
}

pub same_gen : (gens : List Gen) (k : ℕ) (g h : Gen) → slice_get gens k ≡ Some g → slice_get gens k ≡ Some h → g ≡ h
same_gen gens k g h a b = let x : Some g ≡ Some h = sym a ∙ b in cc

pub same_walk : (o : Option ℕ) (j k : ℕ) → o ≡ Some j → o ≡ Some k → j ≡ k
same_walk o j k a b = let x : Some j ≡ Some k = sym a ∙ b in cc

pub probes_grown : (l : Law) (gens now : List Gen) (c : Call) → AllGrew gens now → Probing gens c → ((k : ℕ) (g : Gen) → c.state.walked ≡ Some k → slice_get gens k ≡ Some g → Missed l c g c.state.seen) → (k : ℕ) (h : Gen) → c.state.walked ≡ Some k → slice_get now k ≡ Some h → Missed l c h c.state.seen
probes_grown l gens now c w p m k h wa gh =
    let e : p.number ≡ k = same_walk c.state.walked p.number k p.walked wa in
    let g : slice_get gens k ≡ Some p.gen = rw e at p.got in
    let n = w.each k p.gen g in
    let q : n.0 ≡ h = same_gen now k n.0 h n.1 gh in
    rw (← q) (missed_grown l c p.gen n.0 c.state.seen n.2 p.passed (m k p.gen wa g))

pub turned_missed_grown : (l : Law) (gens now : List Gen) (c : Call) → AllGrew gens now → Turned gens c → ((k : ℕ) (g : Gen) → c.state.walked ≡ Some k → slice_get gens k ≡ Some g → Missed l c g g.capacity) → (k : ℕ) (h : Gen) → c.state.walked ≡ Some k → slice_get now k ≡ Some h → Missed l c h h.capacity
turned_missed_grown l gens now c w p m k h wa gh =
    let f = p.full k wa in
    let n = w.each k f.0 f.1 in
    let q : n.0 ≡ h = same_gen now k n.0 h n.1 gh in
    let z : Missed l c n.0 n.0.capacity = subst (λ b. Missed l c n.0 b) (sym n.2.capacity) (missed_grown l c f.0 n.0 f.0.capacity n.2 f.2 (m k f.0 wa f.1)) in
    rw (← q) z

pub entry_stays_in : (gens now : List Gen) (k i : ℕ) (o : Option Gen) (e : Entry) → AllGrew gens now → slice_get gens k ≡ o → bucket_in o i ≡ Some e → bucket_in (slice_get now k) i ≡ Some e
entry_stays_in gens now k i None e g h m = absurd (cc)
entry_stays_in gens now k i (Some d) e g h m = let n = g.each k d h in rw n.1 (n.2.kept i e m)

-- an entry in the bucket of a generation stays there
pub entry_stays : (gens now : List Gen) (w : Option ℕ) (i : ℕ) (e : Entry) → AllGrew gens now → bucket_in (gen_of gens w) i ≡ Some e → bucket_in (gen_of now w) i ≡ Some e
entry_stays gens now None i e g m = absurd (cc)
entry_stays gens now (Some k) i e g m = entry_stays_in gens now k i (slice_get gens k) e g refl m

pub judged_grown : (l : Law) (gens now : List Gen) (c : Call) → AllGrew gens now → Tracked gens c → Judged l gens c → Judged l now c
judged_grown l gens now c g t j = record {
  hash = j.hash;
  probes = λ h. probes_grown l gens now c g (t.probes h) (j.probes h);
  turned = λ h. turned_missed_grown l gens now c g (t.turned h) (j.turned h);
  met = λ i e o b. let m = t.met.there i o in let q : m.0 ≡ e = same_entry m.0 e _ (entry_stays gens now c.state.walked i m.0 g m.1) b in rw (← q) (j.met i m.0 o m.1);
}

-- A call that moves

pub row_asking : (w : World) (c : Call) {p : Phase} {x : Event} {a : Answer} {r : CallState} {ls : List ℕ} {t : Table} {q : Option Reply} → Row w c p x a r ls t q → is_asking r.phase ≡ true → is_asking p ≡ true
row_asking w c (shares _ _) h = refl
row_asking w c _ h = cc

pub row_hash : (w : World) (c : Call) {p : Phase} {x : Event} {a : Answer} {r : CallState} {ls : List ℕ} {t : Table} {q : Option Reply} → Row w c p x a r ls t q → r.hash ≡ c.state.hash
row_hash w c (shares _ _) = refl
row_hash w c _ = refl

-- an entry that is declined, or whose bits differ, isn't accepted
pub declined : (e : Entry) (s : CallState) (y : Bool) → is_declined e s y ≡ true → is_accepted e s y ≡ false
declined e s y h = and-not (e.bits == bits_of s.hash) y h

pub differing : (e : Entry) (s : CallState) (y : Bool) → is_unasked e s ≡ true → is_accepted e s y ≡ false
differing e s y h = not-and (e.bits == bits_of s.hash) y h

-- an answer yes where the bits agree: the entry is accepted
pub accepted_at : (l : Law) (w : World) (c : Call) (p : Phase) (x : Event) (e : Entry) (y : Bool) → c.state.phase ≡ p → (UsesBy l w c p x → AsksBy l w c y) → bucket_of w.table c.state ≡ Some e → is_accepted e c.state y ≡ true → UsesBy l w c c.state.phase x → accepts l c e.value ≡ true
accepted_at l w c p x e y k s q f u =
    let b : ((e.bits == bits_of c.state.hash) ≡ true) × (y ≡ true) = and_parts (e.bits == bits_of c.state.hash) y f in
    sym (s (subst (λ z. UsesBy l w c z x) k u) e q (eqb-true e.bits (bits_of c.state.hash) b.0)) ∙ b.1

-- an answer no, or other bits: the entry isn't accepted
pub refused_at : (l : Law) (w : World) (c : Call) (p : Phase) (x : Event) (e : Entry) (y b : Bool) → (e.bits == bits_of c.state.hash) ≡ b → c.state.phase ≡ p → (UsesBy l w c p x → AsksBy l w c y) → bucket_of w.table c.state ≡ Some e → (b && y) ≡ false → UsesBy l w c c.state.phase x → e.bits ≡ bits_of (l.hash e.value) → ((x : ℕ) → accepts l c x ≡ true → l.hash x ≡ c.state.hash) → accepts l c e.value ≡ false
refused_at l w c p x e y true h k s q f u m t = sym (s (subst (λ z. UsesBy l w c z x) k u) e q (eqb-true e.bits (bits_of c.state.hash) h)) ∙ f
refused_at l w c p x e y false h k s q f u m t = false_from_ne_true _ (λ z. let n : l.hash e.value ≡ c.state.hash = t e.value z in let v : e.bits ≡ bits_of c.state.hash = rw n at m in let o : eqb e.bits (bits_of c.state.hash) ≡ true = eq-eqb _ _ v in cc)

abbrev pub AllReached : Law → World → Type 0
AllReached l w = (k : ℕ) (g : Gen) → slice_get w.table.gens k ≡ Some g → Reached l g

abbrev pub HasHash : Law → Call → Type 0
HasHash l c = (x : ℕ) → accepts l c x ≡ true → l.hash x ≡ c.state.hash

-- what a probing call knows where it reads an entry that it doesn't accept
pub refused_by : (l : Law) (w : World) (c : Call) (p : Phase) (x : Event) (e : Entry) (y : Bool) → AllReached l w → c.state.phase ≡ p → (UsesBy l w c p x → AsksBy l w c y) → bucket_of w.table c.state ≡ Some e → is_accepted e c.state y ≡ false → UsesBy l w c c.state.phase x → HasHash l c → Probing w.table.gens c → accepts l c e.value ≡ false
refused_by l w c p x e y r h s b f u t q = refused_at l w c p x e y _ refl h s b f u ((r q.number q.gen q.got).bits e (in_bucket e q.gen.entries c.state.index (bucket_some w.table c.state q.number q.gen e q.walked q.got b))) t

-- the buckets of a probe up to the one that it reads
pub missed_more : (l : Law) (w : World) (c : Call) (e : Entry) → (q : Probing w.table.gens c) → bucket_of w.table c.state ≡ Some e → accepts l c e.value ≡ false → ((k : ℕ) (g : Gen) → c.state.walked ≡ Some k → slice_get w.table.gens k ≡ Some g → Missed l c g c.state.seen) → Missed l c q.gen (c.state.seen + 1)
missed_more l w c e q b n m = record {
  none = λ j d lt h. elim (order j c.state.seen) [
    | inl k ↦ (m q.number q.gen q.walked q.got).none j d k h
    | inr o ↦ elim o [
      | inl s ↦ (
          let at : bucket q.gen.entries (bucket_at q.gen.capacity c.state.hash c.state.seen) ≡ Some e = rw (← q.index) (bucket_some w.table c.state q.number q.gen e q.walked q.got b) in
          let at2 : bucket q.gen.entries (bucket_at q.gen.capacity c.state.hash j) ≡ Some e = rw s at in
          let z : e ≡ d = same_entry e d _ at2 h in
          rw (← z) n)
      | inr k ↦ absurd (omega arith)
    ]
  ];
}

pub missed_as : (l : Law) (gens : List Gen) (c d : Call) (n : ℕ) (q : Probing gens c) → d.number ≡ c.number → d.value ≡ c.value → d.state.hash ≡ c.state.hash → Missed l c q.gen n → (k : ℕ) (g : Gen) → c.state.walked ≡ Some k → slice_get gens k ≡ Some g → Missed l d g n
missed_as l gens c d n q a b e m k g wa ge =
    let i : q.number ≡ k = same_walk c.state.walked q.number k q.walked wa in
    let y : slice_get gens k ≡ Some q.gen = rw i at q.got in
    let s : q.gen ≡ g = same_gen gens k q.gen g y ge in
    record {
      none = λ j f lt h.
          let z : bucket q.gen.entries (bucket_at q.gen.capacity c.state.hash j) ≡ Some f = rw (s, ← e) h in
          rw (a, b) (m.none j f lt z);
    }

pub judged_probes : (l : Law) (w : World) (c : Call) {p : Phase} {x : Event} {a : Answer} {r : CallState} {ls : List ℕ} {t : Table} {q : Option Reply} → Row w c p x a r ls t q → c.state.phase ≡ p → UsesBy l w c c.state.phase x → AllReached l w → (is_asking p ≡ true → HasHash l c) → (probing p ≡ true → Probing w.table.gens c) → (probing p ≡ true → (k : ℕ) (g : Gen) → c.state.walked ≡ Some k → slice_get w.table.gens k ≡ Some g → Missed l c g c.state.seen) → probing r.phase ≡ true → (k : ℕ) (g : Gen) → r.walked ≡ Some k → slice_get w.table.gens k ≡ Some g → Missed l (left c r ls) g r.seen
judged_probes l w c (loads _ _ _) e u r t q m z = λ k g wa ge. record { none = λ j f lt h. absurd (omega arith) }
judged_probes l w c (looks _ _ _) e u r t q m z = λ k g wa ge. record { none = λ j f lt h. absurd (omega arith) }
judged_probes l w c (goes_on n y d b f lt) e u r t q m z = missed_as l w.table.gens c _ _ (q refl) refl refl refl (missed_more l w c d (q refl) b (refused_by l w c Probe (Read n y) d y r e (λ x. x) b (declined d c.state y f) u (t refl) (q refl)) (m refl))
judged_probes l w c (goes_on_unasked n y d b f lt) e u r t q m z = missed_as l w.table.gens c _ _ (q refl) refl refl refl (missed_more l w c d (q refl) b (refused_by l w c Probe (Read n y) d y r e (λ x. x) b (differing d c.state y f) u (t refl) (q refl)) (m refl))
judged_probes l w c (loses_goes_on n y d b f lt) e u r t q m z = missed_as l w.table.gens c _ _ (q refl) refl refl refl (missed_more l w c d (q refl) b (refused_by l w c AtEmpty (Put n y true) d y r e (λ x. x) b (declined d c.state y f) u (t refl) (q refl)) (m refl))
judged_probes l w c (loses_goes_on_unasked n y d b f lt) e u r t q m z = missed_as l w.table.gens c _ _ (q refl) refl refl refl (missed_more l w c d (q refl) b (refused_by l w c AtEmpty (Put n y true) d y r e (λ x. x) b (differing d c.state y f) u (t refl) (q refl)) (m refl))
judged_probes l w c (look_goes_on n y d b f lt) e u r t q m z = missed_as l w.table.gens c _ _ (q refl) refl refl refl (missed_more l w c d (q refl) b (refused_by l w c LookProbe (Read n y) d y r e (λ x. x) b (declined d c.state y f) u (t refl) (q refl)) (m refl))
judged_probes l w c (look_goes_on_unasked n y d b f lt) e u r t q m z = missed_as l w.table.gens c _ _ (q refl) refl refl refl (missed_more l w c d (q refl) b (refused_by l w c LookProbe (Read n y) d y r e (λ x. x) b (differing d c.state y f) u (t refl) (q refl)) (m refl))
judged_probes l w c (reads_empty _ _ _) e u r t q m z = λ k g wa ge. record { none = (m refl k g wa ge).none }
judged_probes l w c _ e u r t q m z = absurd (cc)

-- all buckets were seen
pub missed_all : (l : Law) (w : World) (c : Call) (r : CallState) (ls : List ℕ) → r ≡ turned LeaveGrow c.state → (q : Probing w.table.gens c) → nat_lt (c.state.seen + 1) c.state.capacity ≡ false → Missed l c q.gen (c.state.seen + 1) → (k : ℕ) (g : Gen) → r.walked ≡ Some k → slice_get w.table.gens k ≡ Some g → Missed l (left c r ls) g g.capacity
missed_all l w c r ls e q lt m k g wa ge =
    let wc : c.state.walked ≡ Some k = rw e at wa in
    let i : q.number ≡ k = same_walk c.state.walked q.number k q.walked wc in
    let y : slice_get w.table.gens k ≡ Some q.gen = rw i at q.got in
    let s : q.gen ≡ g = same_gen w.table.gens k q.gen g y ge in
    let n : c.state.capacity ≤ c.state.seen + 1 = ltb-false (c.state.seen + 1) c.state.capacity lt in
    let h : r.hash ≡ c.state.hash = ap (λ (z : CallState). z.hash) e in
    let cap : c.state.capacity ≡ g.capacity = rw s at q.capacity in
    record {
      none = λ j f k2 b.
          let z : bucket q.gen.entries (bucket_at q.gen.capacity c.state.hash j) ≡ Some f = rw (s, ← h) b in
          m.none j f (omega arith) z;
    }

pub missed_same : (l : Law) (gens : List Gen) (c : Call) (s : CallState) (ls : List ℕ) → s.walked ≡ c.state.walked → s.hash ≡ c.state.hash → ((k : ℕ) (g : Gen) → c.state.walked ≡ Some k → slice_get gens k ≡ Some g → Missed l c g g.capacity) → (k : ℕ) (g : Gen) → s.walked ≡ Some k → slice_get gens k ≡ Some g → Missed l (left c s ls) g g.capacity
missed_same l gens c s ls e h m k g wa ge = record { none = λ j f lt b. let z : bucket g.entries (bucket_at g.capacity c.state.hash j) ≡ Some f = rw (← h) b in (m k g (sym e ∙ wa) ge).none j f lt z }

pub judged_turned : (l : Law) (w : World) (c : Call) {p : Phase} {x : Event} {a : Answer} {r : CallState} {ls : List ℕ} {t : Table} {q : Option Reply} → Row w c p x a r ls t q → c.state.phase ≡ p → fitting (is_some c.value) p c.state.outcome ≡ true → UsesBy l w c c.state.phase x → AllReached l w → (is_asking p ≡ true → HasHash l c) → (probing p ≡ true → Probing w.table.gens c) → (probing p ≡ true → (k : ℕ) (g : Gen) → c.state.walked ≡ Some k → slice_get w.table.gens k ≡ Some g → Missed l c g c.state.seen) →
    (wants_growth p c.state.outcome ≡ true → (k : ℕ) (g : Gen) → c.state.walked ≡ Some k → slice_get w.table.gens k ≡ Some g → Missed l c g g.capacity) →
    wants_growth r.phase r.outcome ≡ true → (k : ℕ) (g : Gen) → r.walked ≡ Some k → slice_get w.table.gens k ≡ Some g → Missed l (left c r ls) g g.capacity
judged_turned l w c (loads_none _ _) e f u r t q m v z = λ k g wa ge. absurd (cc)
judged_turned l w c (turns n y d b o lt) e f u r t q m v z = missed_all l w c _ _ refl (q refl) lt (missed_more l w c d (q refl) b (refused_by l w c Probe (Read n y) d y r e (λ x. x) b (declined d c.state y o) u (t refl) (q refl)) (m refl))
judged_turned l w c (turns_unasked n y d b o lt) e f u r t q m v z = missed_all l w c _ _ refl (q refl) lt (missed_more l w c d (q refl) b (refused_by l w c Probe (Read n y) d y r e (λ x. x) b (differing d c.state y o) u (t refl) (q refl)) (m refl))
judged_turned l w c (loses_turns n y d b o lt) e f u r t q m v z = missed_all l w c _ _ refl (q refl) lt (missed_more l w c d (q refl) b (refused_by l w c AtEmpty (Put n y true) d y r e (λ x. x) b (declined d c.state y o) u (t refl) (q refl)) (m refl))
judged_turned l w c (loses_turns_unasked n y d b o lt) e f u r t q m v z = missed_all l w c _ _ refl (q refl) lt (missed_more l w c d (q refl) b (refused_by l w c AtEmpty (Put n y true) d y r e (λ x. x) b (differing d c.state y o) u (t refl) (q refl)) (m refl))
judged_turned l w c (leaves_grow _) e f u r t q m v z = missed_same l w.table.gens c _ _ refl refl (v refl)
judged_turned l w c (large _ _ _ _) e f u r t q m v z = absurd (asking_outcome (is_some c.value) c.state.outcome f z)
judged_turned l w c (owns _ _) e f u r t q m v z = missed_same l w.table.gens c _ _ refl refl (v (growth_from WantOwned Owned refl (λ i. refl) (λ i. refl) c.state.outcome z))
judged_turned l w c (begins_first _ _) e f u r t q m v z = missed_same l w.table.gens c _ _ refl refl (v (growth_from Owned Building refl (λ i. refl) (λ i. refl) c.state.outcome z))
judged_turned l w c (begins_next _ _ _ _ _) e f u r t q m v z = missed_same l w.table.gens c _ _ refl refl (v (growth_from Owned Building refl (λ i. refl) (λ i. refl) c.state.outcome z))
judged_turned l w c (unwanted _ _ _ _ _) e f u r t q m v z = missed_same l w.table.gens c _ _ refl refl (v (growth_from Owned LeaveOwned refl (λ i. refl) (λ i. refl) c.state.outcome z))
judged_turned l w c (fails_first _ _) e f u r t q m v z = missed_same l w.table.gens c _ _ refl refl (v (growth_from Owned LeaveFailed refl (λ i. refl) (λ i. refl) c.state.outcome z))
judged_turned l w c (fails_largest _ _ _ _ _ _) e f u r t q m v z = missed_same l w.table.gens c _ _ refl refl (v (growth_from Owned LeaveFailed refl (λ i. refl) (λ i. refl) c.state.outcome z))
judged_turned l w c (fails_refused _ _ _ _) e f u r t q m v z = missed_same l w.table.gens c _ _ refl refl (v (growth_from Owned LeaveFailed refl (λ i. refl) (λ i. refl) c.state.outcome z))
judged_turned l w c (copies _ _ _ _) e f u r t q m v z = missed_same l w.table.gens c _ _ refl refl (v (growth_from Building Building refl (λ i. refl) (λ i. refl) c.state.outcome z))
judged_turned l w c (shows _ _) e f u r t q m v z = missed_same l w.table.gens c _ _ refl refl (v (growth_from Building LeaveOwned refl (λ i. refl) (λ i. refl) c.state.outcome z))
judged_turned l w c _ e f u r t q m v z = absurd (cc)

pub met_accepted : (l : Law) (w : World) (c : Call) (d : Entry) → bucket_of w.table c.state ≡ Some d → accepts l c d.value ≡ true → (i : ℕ) (e : Entry) → Existing c.state.index ≡ Existing i → bucket_in (gen_of w.table.gens c.state.walked) i ≡ Some e → accepts l c e.value ≡ true
met_accepted l w c d b y i e h k =
    let x : c.state.index ≡ i = cc in
    let z : bucket_in (gen_of w.table.gens c.state.walked) i ≡ Some d = rw (← x) b in
    let q : d ≡ e = same_entry d e _ z k in
    rw (← q) y

pub judged_met : (l : Law) (w : World) (c : Call) {p : Phase} {x : Event} {a : Answer} {r : CallState} {ls : List ℕ} {t : Table} {q : Option Reply} → Row w c p x a r ls t q → c.state.phase ≡ p → fitting (is_some c.value) p c.state.outcome ≡ true → UsesBy l w c c.state.phase x → ((i : ℕ) (e : Entry) → c.state.outcome ≡ Existing i → bucket_in (gen_of w.table.gens c.state.walked) i ≡ Some e → accepts l c e.value ≡ true) → (i : ℕ) (e : Entry) → r.outcome ≡ Existing i → bucket_in (gen_of w.table.gens r.walked) i ≡ Some e → accepts l c e.value ≡ true
judged_met l w c (meets n y d b o) e f u m = met_accepted l w c d b (accepted_at l w c Probe (Read n y) d y e (λ x. x) b o u)
judged_met l w c (loses_meets n y d b o) e f u m = met_accepted l w c d b (accepted_at l w c AtEmpty (Put n y true) d y e (λ x. x) b o u)
judged_met l w c (look_meets n y d b o) e f u m = met_accepted l w c d b (accepted_at l w c LookProbe (Read n y) d y e (λ x. x) b o u)
judged_met l w c (adds _) e f u m = λ i d h k. absurd (cc)
judged_met l w c (loads _ _ _) e f u m = λ i d h k. absurd (load_outcome Shared (λ i. (refl, refl)) (is_some c.value) c.state.outcome f i h)
judged_met l w c (loads_none _ _) e f u m = λ i d h k. absurd (load_outcome Shared (λ i. (refl, refl)) (is_some c.value) c.state.outcome f i h)
judged_met l w c (looks _ _ _) e f u m = λ i d h k. absurd (load_outcome LookLoad (λ i. (refl, refl)) (is_some c.value) c.state.outcome f i h)
judged_met l w c (len_loads _ _ _) e f u m = λ i d h k. absurd (load_outcome LenLoad (λ i. (refl, refl)) (is_some c.value) c.state.outcome f i h)
judged_met l w c (walk_loads _ _ _) e f u m = λ i d h k. absurd (load_outcome WalkLoad (λ i. (refl, refl)) (is_some c.value) c.state.outcome f i h)
judged_met l w c _ e f u m = m

pub judged_row : (l : Law) (w : World) (c : Call) {p : Phase} {x : Event} {a : Answer} {r : CallState} {ls : List ℕ} {t : Table} {q : Option Reply} → Row w c p x a r ls t q → c.state.phase ≡ p → CallOk (length w.table.gens) c → UsesBy l w c c.state.phase x → AllReached l w → Tracked w.table.gens c → Judged l w.table.gens c → Judged l w.table.gens (left c r ls)
judged_row l w c row e k u r t j = record {
  hash = λ h x y. j.hash (ap is_asking e ∙ row_asking w c row h) x y ∙ sym (row_hash w c row);
  probes = judged_probes l w c row e u r (λ h. j.hash (ap is_asking e ∙ h)) (λ h. t.probes (ap probing e ∙ h)) (λ h. j.probes (ap probing e ∙ h));
  turned = judged_turned l w c row e (fit_at c _ _ k e) u r (λ h. j.hash (ap is_asking e ∙ h)) (λ h. t.probes (ap probing e ∙ h)) (λ h. j.probes (ap probing e ∙ h)) (λ h. j.turned (ap (λ z. wants_growth z c.state.outcome) e ∙ h));
  met = judged_met l w c row e (fit_at c _ _ k e) u j.met;
}

-- Entries that are put

pub way_put : (capacity hash place : ℕ) (e : Entry) (es : List Entry) → bucket es e.index ≡ None → Way capacity es hash place → Way capacity (put_in e es) hash place
way_put capacity hash place e es n w = record { steps = w.steps; there = w.there; set = λ j lt. ((w.set j lt).0, put_stays e (w.set j lt).0 es _ n (w.set j lt).1) }

-- an entry put where its way ends keeps all entries reached
pub reached_put : (l : Law) (g : Gen) (e : Entry) → bucket g.entries e.index ≡ None → e.bits ≡ bits_of (l.hash e.value) → Way g.capacity g.entries (l.hash e.value) e.index → Reached l g → Reached l (fill g e)
reached_put l g e n b w r = record {
  bits = λ d i. elim (in_put d e g.entries i) [ inl q ↦ rw (← q) b | inr q ↦ r.bits d q ];
  way = λ d i. elim (in_put d e g.entries i) [ inl q ↦ rw (← q) (way_put g.capacity _ _ e g.entries n w) | inr q ↦ way_put g.capacity _ _ e g.entries n (r.way d q) ];
}

pub reached_count : (l : Law) (g : Gen) → Reached l g → Reached l (count g)
reached_count l g r = record { bits = r.bits; way = r.way }

pub reach_set : (l : Law) (gens : List Gen) (k : ℕ) (f : Gen → Gen) (o : Option Gen) → slice_get gens k ≡ o → ((k : ℕ) (g : Gen) → slice_get gens k ≡ Some g → Reached l g) → ((g : Gen) → o ≡ Some g → Reached l (f g)) → (j : ℕ) (h : Gen) → slice_get (change_at gens k o f) j ≡ Some h → Reached l h
reach_set l gens k f None e r q j h x = r j h x
reach_set l gens k f (Some g) e r q j h x = elim (get-set gens k j g (f g) h e x) [ inl p ↦ rw p.1 (q g refl) | inr p ↦ r j h p.1 ]

pub reach_change : (l : Law) (gens : List Gen) (w : Option ℕ) (f : Gen → Gen) → ((k : ℕ) (g : Gen) → slice_get gens k ≡ Some g → Reached l g) → ((k : ℕ) (g : Gen) → w ≡ Some k → slice_get gens k ≡ Some g → Reached l (f g)) → (j : ℕ) (h : Gen) → slice_get (change gens w f) j ≡ Some h → Reached l h
reach_change l gens None f r q j h x = r j h x
reach_change l gens (Some k) f r q j h x = reach_set l gens k f (slice_get gens k) refl r (λ g e. q k g refl e) j h x

pub reach_push : (l : Law) (gens : List Gen) (b : Option Build) → ((k : ℕ) (g : Gen) → slice_get gens k ≡ Some g → Reached l g) → ((d : Build) → b ≡ Some d → Reached l d.gen) → (j : ℕ) (h : Gen) → slice_get (gens ++ built b) j ≡ Some h → Reached l h
reach_push l gens None r q j h x = r j h (rw append-none at x)
reach_push l gens (Some b) r q j h x = elim (get-push gens b.gen h j x) [ inl p ↦ rw p.1 (q b refl) | inr p ↦ r j h p ]

-- an insert accepts its own value, whose hash it has
pub own_hash : (l : Law) (c : Call) (v : ℕ) → c.value ≡ Some v → HasHash l c → l.hash v ≡ c.state.hash
own_hash l c v e t = t v (rw e (l.reflexive v))

pub reach_put : (l : Law) (w : World) (c : Call) (v : ℕ) → bucket_of w.table c.state ≡ None → c.value ≡ Some v → HasHash l c → Probing w.table.gens c → (k : ℕ) (g : Gen) → c.state.walked ≡ Some k → slice_get w.table.gens k ≡ Some g → Reached l g → Reached l (fill g (entry_of c.state v))
reach_put l w c v n e t q k g wa ge r =
    let m : q.number ≡ k = same_walk c.state.walked q.number k q.walked wa in
    let y : slice_get w.table.gens k ≡ Some q.gen = rw m at q.got in
    let d : q.gen ≡ g = same_gen w.table.gens k q.gen g y ge in
    let o : l.hash v ≡ c.state.hash = own_hash l c v e t in
    let s : Way q.gen.capacity q.gen.entries c.state.hash c.state.index = record { steps = c.state.seen; there = q.index; set = q.passed } in
    let z : Way g.capacity g.entries c.state.hash c.state.index = subst (λ x. Way x.capacity x.entries c.state.hash c.state.index) d s in
    reached_put l g (entry_of c.state v) (bucket_none w.table c.state k g wa ge n) (ap bits_of (sym o)) (subst (λ x. Way g.capacity g.entries x c.state.index) (sym o) z) r

pub reach_place : (l : Law) (w : World) (c : Call) (v : Option ℕ) → bucket_of w.table c.state ≡ None → c.value ≡ v → HasHash l c → Probing w.table.gens c → AllReached l w → (j : ℕ) (h : Gen) → slice_get (place w.table c.state v).gens j ≡ Some h → Reached l h
reach_place l w c None n e t q r = r
reach_place l w c (Some v) n e t q r = reach_change l w.table.gens c.state.walked (λ g. fill g (entry_of c.state v)) r (λ k g wa ge. reach_put l w c v n e t q k g wa ge (r k g ge))

pub reach_row : (l : Law) (w : World) (c : Call) {p : Phase} {x : Event} {a : Answer} {r : CallState} {ls : List ℕ} {t : Table} {q : Option Reply} → Row w c p x a r ls t q → (is_asking p ≡ true → HasHash l c) → (probing p ≡ true → Probing w.table.gens c) → LawOk l w → (j : ℕ) (h : Gen) → slice_get t.gens j ≡ Some h → Reached l h
reach_row l w c (puts _ _ n) t q o = reach_place l w c c.value n refl (t refl) (q refl) o.gens
reach_row l w c (adds _) t q o = reach_change l w.table.gens c.state.walked count o.gens (λ k g wa ge. reached_count l g (o.gens k g ge))
reach_row l w c (shows _ _) t q o = reach_push l w.table.gens w.table.building o.gens o.built
reach_row l w c _ t q o = o.gens

pub reached_fresh : (l : Law) (n : ℕ) → Reached l (fresh n)
reached_fresh l n = record { bits = λ e i. absurd i; way = λ e i. absurd i }

pub reach_begin : (l : Law) (w : World) (b : Build) → (begin_growth w.table).building ≡ Some b → Reached l b.gen
reach_begin l w b e = let z : record { gen = fresh (next_capacity w.table.first (current w.table)); copied = 0 } ≡ b = cc in rw (← z) (reached_fresh l (next_capacity w.table.first (current w.table)))

pub reach_copy : (l : Law) (w : World) (m : List ℕ) (rs : List Finished) (o : Option Build) (e : Entry) (hash : ℕ) → w.table.building ≡ o → entry_left (entries_of (current w.table)) o ≡ Some e → hash ≡ l.hash e.value → e.bits ≡ bits_of (l.hash e.value) → Inv w m rs → ((b : Build) → w.table.building ≡ Some b → Reached l b.gen) → (d : Build) → copy_on o e hash ≡ Some d → Reached l d.gen
reach_copy l w m rs None e hash h k q b i r d x = absurd (cc)
reach_copy l w m rs (Some c) e hash h k q b i r d x =
    let y : record { gen = copy_in c.gen e (first_empty c.gen hash); copied = c.copied + 1 } ≡ d = cc in
    let lt = copy_room w.table m (length m) (current w.table) c e refl h k i.holding i.roomy (λ d z. i.seated.gens _ d z) in
    let f = first_empty_way c.gen hash lt in
    rw (← y) (reached_count l _ (reached_put l c.gen (record e { index = first_empty c.gen hash }) f.1 b (subst (λ z. Way c.gen.capacity c.gen.entries z (first_empty c.gen hash)) q f.0) (r c h)))

pub copied_in : (g : Option Gen) (b : Option Build) (e : Entry) → entry_left (entries_of g) b ≡ Some e → (d : Gen) × (g ≡ Some d) × In e d.entries
copied_in None None e h = absurd (cc)
copied_in None (Some b) e h = absurd (cc)
copied_in (Some g) None e h = absurd (cc)
copied_in (Some g) (Some b) e h = (g, refl, in_get e g.entries b.copied h)

pub built_reach : (l : Law) (w : World) (m : List ℕ) (rs : List Finished) (c : Call) {p : Phase} {x : Event} {a : Answer} {r : CallState} {ls : List ℕ} {t : Table} {q : Option Reply} → Row w c p x a r ls t q → c.state.phase ≡ p → UsesBy l w c c.state.phase x → Inv w m rs → LawOk l w → (d : Build) → t.building ≡ Some d → Reached l d.gen
built_reach l w m rs c (puts _ _ _) s u i o d h = o.built d (sym (place_building w.table c.state c.value) ∙ h)
built_reach l w m rs c (begins_first _ _) s u i o d h = reach_begin l w d h
built_reach l w m rs c (begins_next _ _ _ _ _) s u i o d h = reach_begin l w d h
built_reach l w m rs c (copies m2 k e n) s u i o d h = let z : CopiesBy l w k = subst (λ z. UsesBy l w c z (Copy m2 k)) s u in let q = copied_in (current w.table) w.table.building e n in reach_copy l w m rs w.table.building e k refl n (z e n) ((o.gens _ q.0 q.1).bits e q.2) i o.built d h
built_reach l w m rs c (shows _ _) s u i o d h = absurd (cc)
built_reach l w m rs c _ s u i o d h = o.built d h

-- Lawful turns

pub begin_judged : (l : Law) (gens : List Gen) {x : Event} {n : ℕ} {v : Option ℕ} {p : Phase} {h : ℕ} → Opens x n v p h → OpensBy l x → Judged l gens (starts n v p h)
begin_judged l gens (opens_insert n v h) o = record { hash = λ q x y. l.agrees x v (l.symmetric v x y) ∙ sym o; probes = λ q. absurd (cc); turned = λ q. absurd (cc); met = λ i e q. absurd (cc) }
begin_judged l gens (opens_lookup n h) o = record { hash = λ q x y. o x y; probes = λ q. absurd (cc); turned = λ q. absurd (cc); met = λ i e q. absurd (cc) }
begin_judged l gens (opens_len n) o = record { hash = λ q x y. absurd (cc); probes = λ q. absurd (cc); turned = λ q. absurd (cc); met = λ i e q. absurd (cc) }
begin_judged l gens (opens_walk n) o = record { hash = λ q x y. absurd (cc); probes = λ q. absurd (cc); turned = λ q. absurd (cc); met = λ i e q. absurd (cc) }

pub keeps_law : (l : Law) {w v : World} {x : Event} {a : Option Act} {r : Option Finished} (m : List ℕ) (rs : List Finished) → Turn w x a v r → ActsBy l w x a → Inv w m rs → LawOk l w → LawOk l v
keeps_law l m rs rests u i o = o
keeps_law l {w = w} m rs (opens n v p h ra b q f) u i o = record {
  gens = o.gens;
  built = o.built;
  calls = λ j d g. elim (get-push w.calls (starts n v p h) d j g) [ inl y ↦ rw y.1 (begin_judged l w.table.gens b u) | inr y ↦ o.calls j d y ];
}
keeps_law l {w = w} m rs (takes i c p a s list t o g e row nu) u k z = record {
  gens = reach_row l w c row (λ h. (z.calls i c g).hash (ap is_asking e ∙ h)) (λ h. (k.tracked.at i c g).probes (ap probing e ∙ h)) z;
  built = built_reach l w m rs c row e u k z;
  calls = λ j d q. elim (get-set w.calls i j c (left c s list) d g q) [
    | inl y ↦ rw y.1 (judged_grown l w.table.gens t.gens (left c s list) (row_grew w c row) (tracked_row w c row e (k.calls.at i c g) k.seated (k.tracked.at i c g)) (judged_row l w c row e (k.calls.at i c g) u z.gens (k.tracked.at i c g) (z.calls i c g)))
    | inr y ↦ judged_grown l w.table.gens t.gens d (row_grew w c row) (k.tracked.at j d y.1) (z.calls j d y.1)
  ];
}

pub law_empty : (l : Law) (f : ℕ) → LawOk l (empty f)
law_empty l f = record { gens = λ k g x. absurd (cc); built = λ b x. absurd (cc); calls = λ i c x. absurd (cc) }

-- a schedule is lawful as far as it goes
pub lawful_before : (l : Law) (s more : List Event) (w : World) → RunsBy l w (s ++ more) → RunsBy l w s
lawful_before l [] more w u = tt
lawful_before l (x ∷ s) more w u = (u.0, lawful_before l s more (happens w x) u.1)

pub lawful_then : (l : Law) (s more : List Event) (w : World) → RunsBy l w (s ++ more) → RunsBy l (run w s) more
lawful_then l [] more w u = u
lawful_then l (x ∷ s) more w u = lawful_then l s more (happens w x) u.1

abbrev LawAfter : Law → ℕ → List Event → Type 0
LawAfter l f s = IsLawful l f s → LawOk l (after f s)

pub law_snoc : (l : Law) (f : ℕ) → IsFirstCapacity f → (s : List Event) (x : Event) → LawAfter l f s → LawAfter l f (s ++ x ∷ [])
law_snoc l f h s x k u = keeps_law l (placed (empty f) s) (replies (empty f) s) (turn_after f s x) (lawful_then l s (x ∷ []) (empty f) u).0 (inv f h s) (k (lawful_before l s (x ∷ []) (empty f) u))

-- what a lawful schedule leaves
pub law_after : (l : Law) (f : ℕ) → IsFirstCapacity f → (s : List Event) → IsLawful l f s → LawOk l (after f s)
law_after l f h s = by_snoc (LawAfter l f) (λ u. law_empty l f) (law_snoc l f h) s

-- No two placed values are equal

pub none_passes : (p : ℕ → Bool) (es : List Entry) → ((e : Entry) → In e es → p e.value ≡ false) → weigh (λ e. one_if (p e.value)) es ≡ 0
none_passes p [] f = refl
none_passes p (x ∷ es) f = omega (arith, ap one_if (f x (inl refl)), none_passes p es (λ e i. f e (inr i)))

pub current_at : (gens : List Gen) (k : ℕ) (g : Gen) → suc k ≡ length gens → slice_get gens k ≡ Some g → last_of gens ≡ Some g
current_at gens k g e h = let x : length gens - 1 ≡ k = omega arith in rw x h

-- nothing that was placed is accepted, where no entry of the current generation is
pub none_placed : (l : Law) (w : World) (m : List ℕ) (c : Call) (g : Gen) → current w.table ≡ Some g → Holding w.table m → ((e : Entry) → In e g.entries → accepts l c e.value ≡ false) → weigh (λ u. one_if (accepts l c u)) m ≡ 0
none_placed l w m c g h o f =
    let z : weigh (λ e. one_if (accepts l c e.value)) g.entries ≡ 0 = none_passes (accepts l c) g.entries f in
    let b : weigh (λ e. one_if (accepts l c e.value)) g.entries ≡ weigh (λ u. one_if (accepts l c u)) m = rw h at (o.bag (λ u. one_if (accepts l c u))) in
    sym b ∙ z

-- where an insert meets an empty bucket of the current generation, it accepts nothing that was placed
pub fresh_value : (l : Law) (w : World) (m : List ℕ) (rs : List Finished) (i : ℕ) (c : Call) → slice_get w.calls i ≡ Some c → bucket_of w.table c.state ≡ None → probing c.state.phase ≡ true → stands c.state.phase ≡ true → is_asking c.state.phase ≡ true → Inv w m rs → LawOk l w → weigh (λ u. one_if (accepts l c u)) m ≡ 0
fresh_value l w m rs i c gc n pr st ask v o =
    let k = (v.calls.at i c gc).stands st in
    let q = (v.tracked.at i c gc).probes pr in
    let j = o.calls i c gc in
    let s : q.number ≡ k.0 = same_walk c.state.walked q.number k.0 q.walked k.1 in
    let y : suc q.number ≡ length w.table.gens = rw s k.2 in
    let g : current w.table ≡ Some q.gen = current_at w.table.gens q.number q.gen y q.got in
    let b : bucket q.gen.entries (bucket_at q.gen.capacity c.state.hash c.state.seen) ≡ None = rw (← q.index) (bucket_none w.table c.state q.number q.gen q.walked q.got n) in
    none_placed l w m c q.gen g v.holding (misses_at_empty l c q.gen c.state.seen (v.seated.gens q.number q.gen q.got) (o.gens q.number q.gen q.got) (j.probes pr q.number q.gen q.walked q.got) (j.hash ask) b)

pub passes_le : (a b : Bool) → (a ≡ true → b ≡ true) → one_if a ≤ one_if b
passes_le true true f = omega arith
passes_le true false f = absurd (let x : false ≡ true = f refl in cc)
passes_le false b f = omega arith

-- no two values of a list are equal, by weights
abbrev pub Apart : (ℕ → ℕ → Bool) → List ℕ → Type 0
Apart equal m = (x : ℕ) → weigh (λ v. one_if (equal x v)) m ≤ 1

pub apart_more_at : (l : Law) (m : List ℕ) (v x : ℕ) (b : Bool) → l.equal x v ≡ b → weigh (λ u. one_if (l.equal v u)) m ≡ 0 → weigh (λ u. one_if (l.equal x u)) m ≤ 1 → weigh (λ u. one_if (l.equal x u)) m + (one_if b + 0) ≤ 1
apart_more_at l m v x false h z o = omega arith
apart_more_at l m v x true h z o = omega (arith, weigh-le (λ u. one_if (l.equal x u)) (λ u. one_if (l.equal v u)) (λ u. passes_le (l.equal x u) (l.equal v u) (λ q. l.transitive v x u (l.symmetric x v h) q)) m)

pub apart_more : (l : Law) (m : List ℕ) (v : ℕ) → weigh (λ u. one_if (l.equal v u)) m ≡ 0 → Apart l.equal m → Apart l.equal (m ++ v ∷ [])
apart_more l m v z o x = rw weigh-append (apart_more_at l m v x (l.equal x v) refl z (o x))

pub apart_place : (l : Law) (w : World) (m : List ℕ) (rs : List Finished) (i : ℕ) (c : Call) (v : Option ℕ) → c.value ≡ v → weigh (λ u. one_if (accepts l c u)) m ≡ 0 → Apart l.equal m → Apart l.equal (m ++ option_to_list v)
apart_place l w m rs i c None e z q = rw append-none q
apart_place l w m rs i c (Some v) e z q = apart_more l m v (rw e at z) q

pub apart_row : (l : Law) (w : World) (m : List ℕ) (rs : List Finished) (i : ℕ) (c : Call) {p : Phase} {x : Event} {a : Answer} {r : CallState} {ls : List ℕ} {t : Table} {q : Option Reply} → Row w c p x a r ls t q → c.state.phase ≡ p → slice_get w.calls i ≡ Some c → Inv w m rs → LawOk l w → Apart l.equal m → Apart l.equal (m ++ placed_by (Some (Goes c a)))
apart_row l w m rs i c (puts _ _ n) e g v o q = apart_place l w m rs i c c.value refl (fresh_value l w m rs i c g n (ap probing e) (ap stands e) (ap is_asking e) v o) q
apart_row l w m rs i c (shares _ _) e g v o q = rw append-none q
apart_row l w m rs i c _ e g v o q = rw append-none q

pub keeps_apart : (l : Law) {w v : World} {x : Event} {a : Option Act} {r : Option Finished} (m : List ℕ) (rs : List Finished) → Turn w x a v r → Inv w m rs → LawOk l w → Apart l.equal m → Apart l.equal (m ++ placed_by a)
keeps_apart l m rs rests k o q = rw append-none q
keeps_apart l m rs (opens _ _ _ _ _ _ _ _) k o q = rw append-none q
keeps_apart l {w = w} m rs (takes i c p a s list t o g e row nu) k z q = apart_row l w m rs i c row e g k z q

abbrev pub PlacedOnce : Law → ℕ → List Event → Type 0
PlacedOnce l f s = IsLawful l f s → Apart l.equal (placed (empty f) s)

apart_snoc : (l : Law) (f : ℕ) → IsFirstCapacity f → (s : List Event) (x : Event) → PlacedOnce l f s → PlacedOnce l f (s ++ x ∷ [])
apart_snoc l f h s x k u =
    let b = lawful_before l s (x ∷ []) (empty f) u in
    rw (placed_snoc f s x) (keeps_apart l (placed (empty f) s) (replies (empty f) s) (turn_after f s x) (inv f h s) (law_after l f h s b) (k b))

pub placed_once_each : (l : Law) (f : ℕ) (s : List Event) → IsFirstCapacity f → PlacedOnce l f s
placed_once_each l f s h = by_snoc (PlacedOnce l f) (λ u x. omega arith) (apart_snoc l f h) s

pub placed_apart : (l : Law) (f : ℕ) (s : List Event) → IsFirstCapacity f → PlacedApart l f s
placed_apart l f s h u x = omega (arith, placed_once_each l f s h u x, count_by-weigh (l.equal x) (placed (empty f) s))
