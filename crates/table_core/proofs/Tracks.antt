-- Where each call stands in its generation.
use Rattle.std.proofs.Common.{ℕ, ◌≡◌, ◌+◌, ◌-◌, ◌%◌, ◌<◌, ◌≤◌, inl, inr, List, Bool, true, false, refl, Option, Some, None, length, sym, ap, arith, ◌∙◌}
use Rattle.std.specs.Prelude.{nat_lt}
use Rattle.std.specs.List.{slice_get}
use Rattle.table_core.specs.Replies.{Reply, Finished}
use Rattle.table_core.specs.Generations.{Gen, Table, bucket, current, gen_of, bucket_in}
use Rattle.table_terms.specs.Probes.{bucket_at}
use Rattle.table_core.specs.Calls.{Call, starts, probes, finds_entry, stands_at_bucket}
use Rattle.table_core.specs.Machine.{World, empty, bucket_of, Act}
use Rattle.table_core.specs.Steps.{next_bucket, turned, Row, loads_none, loads, reads_empty, meets, turns, turns_unasked, goes_on, goes_on_unasked, puts, loses_meets, loses_turns, loses_turns_unasked, loses_goes_on, loses_goes_on_unasked, adds, leaves_ok, leaves_grow, large, owns, begins_first, fails_first, unwanted, fails_largest, fails_refused, begins_next, copies, shows, looks, look_meets, look_goes_on, look_goes_on_unasked, len_loads, walk_loads, walk_skips, walk_takes, Opens, opens_insert, opens_lookup, opens_len, opens_walk, left}
use Rattle.table_core.specs.declared.event.Event.{Event}
use Rattle.table_core.specs.declared.generation.Entry.{Entry}
use Rattle.table_core.specs.declared.call.CallState.{CallState}
use Rattle.table_core.specs.declared.call.Phase.{Phase}
use Rattle.table_core.specs.declared.call.Phase.TheVariants.{Shared, Probe, LeaveOk, LeaveGrow, AskSize, WantOwned, Owned, Building, LeaveOwned, LeaveFailed, LookLoad, LookProbe, LenLoad, WalkLoad, WalkAt, Done}
use Rattle.table_core.specs.declared.call.Outcome.{Outcome}
use Rattle.table_core.specs.declared.call.Outcome.TheVariants.{Pending, New, Existing}
use Rattle.table_core.specs.declared.call.Answer.{Answer}
use Rattle.table_core.proofs.Lists.{get-set, get-push}
use Rattle.std.proofs.lemmas.Bool.{ltb-false, ltb-true, lt-ltb, and_from, and_parts}
use Rattle.std.proofs.lemmas.Nat.{mod_below}
use Rattle.std.specs.Option.{is_some}
use Rattle.table_core.proofs.Turns.{Turn, rests, opens, takes}
use Rattle.table_core.proofs.Standing.{fitting, CallOk, CallsOk, implies, imply}
use Rattle.table_core.proofs.Facts.{IsSet, AllGrew, AllSeated, is_placed, measuring, Walked, probing, Probing, Walking, is_walking, wants_growth, Turned, Met, Tracked, AllTracked}
use Rattle.table_core.proofs.Contents.{row_grew, fit_at, order, bucket_some}
use Rattle.std.proofs.Math.Nat.{mod-add-mod}

-- Generations that have grown

abbrev walked_grown : (gens now : List Gen) (w : Option ℕ) (k : ℕ) → AllGrew gens now → Walked gens w k → Walked now w k
walked_grown gens now w k g p =
    let n = g.each p.number p.gen p.got in
    record { number = p.number; gen = n.0; walked = p.walked; got = n.1; capacity = p.capacity ∙ sym n.2.capacity }

pub probing_grown : (gens now : List Gen) (c : Call) → AllGrew gens now → Probing gens c → Probing now c
probing_grown gens now c g p =
    let n = g.each p.number p.gen p.got in
    record {
      of = walked_grown gens now _ _ g p.of;
      index = rw n.2.capacity p.index;
      below = rw n.2.capacity p.below;
      passed = λ j lt. ((p.passed j lt).0, rw n.2.capacity (n.2.kept _ _ (p.passed j lt).1));
    }

-- a call that probes stands at a bucket
pub at_bucket : (gens : List Gen) (c : Call) → Probing gens c → stands_at_bucket c.state ≡ true
at_bucket gens c p =
    let q = p.below in
    let e = p.capacity in
    let i = p.index in
    let m : bucket_at p.gen.capacity c.state.hash c.state.seen < p.gen.capacity = mod_below (c.state.hash + c.state.seen) p.gen.capacity (omega arith) in
    and_from _ _ (lt-ltb c.state.index c.state.capacity (omega arith)) (lt-ltb c.state.seen c.state.capacity (omega arith))

pub walking_grown : (gens now : List Gen) (c : Call) → AllGrew gens now → Walking gens c → Walking now c
walking_grown gens now c g p =
    let n = g.each p.number p.gen p.got in
    record { of = walked_grown gens now _ _ g p.of; below = rw n.2.capacity p.below }

pub turned_grown : (gens now : List Gen) (c : Call) → AllGrew gens now → Turned gens c → Turned now c
turned_grown gens now c g t = record {
  full = λ k e.
      let f = t.full k e in
      let n = g.each k f.0 f.1 in
      (n.0, n.1, λ j lt. let s = f.2 j (rw n.2.capacity at lt) in (s.0, rw n.2.capacity (n.2.kept _ _ s.1)));
}

pub met_in : (gens now : List Gen) (k i : ℕ) (o : Option Gen) → AllGrew gens now → slice_get gens k ≡ o → (e : Entry) × (bucket_in o i ≡ Some e) → (e : Entry) × (bucket_in (slice_get now k) i ≡ Some e)
met_in gens now k i None g h m = absurd (let x : None ≡ Some m.0 = m.1 in cc)
met_in gens now k i (Some d) g h m = let n = g.each k d h in (m.0, rw n.1 (n.2.kept i m.0 m.1))

pub met_at : (gens now : List Gen) (w : Option ℕ) (i : ℕ) → AllGrew gens now → (e : Entry) × (bucket_in (gen_of gens w) i ≡ Some e) → (e : Entry) × (bucket_in (gen_of now w) i ≡ Some e)
met_at gens now None i g m = absurd (let x : None ≡ Some m.0 = m.1 in cc)
met_at gens now (Some k) i g m = met_in gens now k i (slice_get gens k) g refl m

pub tracked_grown : (gens now : List Gen) (c : Call) → AllGrew gens now → Tracked gens c → Tracked now c
tracked_grown gens now c g t = record {
  probes = λ h. probing_grown gens now c g (t.probes h);
  stands = t.stands;
  measures = t.measures;
  walks = λ h. walking_grown gens now c g (t.walks h);
  turned = λ h. turned_grown gens now c g (t.turned h);
  met = record { there = λ i e. met_at gens now c.state.walked i g (t.met.there i e) };
}

-- A call that moves

-- a call that loads walks the current generation
abbrev walked_now : (t : Table) (g : Gen) → current t ≡ Some g → Walked t.gens (Some (length t.gens - 1)) g.capacity
walked_now t g h = record { number = length t.gens - 1; gen = g; walked = refl; got = h; capacity = refl }

-- a probe at its first bucket
pub probing_first : (t : Table) (c : Call) (g : Gen) (on : Phase) (ls : List ℕ) → current t ≡ Some g → 0 < g.capacity → Probing t.gens (left c (probes on c.state (length t.gens - 1) g.capacity) ls)
probing_first t c g on ls h pos = record {
  of = walked_now t g h;
  index = let z : c.state.hash ≡ c.state.hash + 0 = omega arith in ap (λ x. x % g.capacity) z;
  below = pos;
  passed = λ j lt. absurd (omega arith);
}

pub passed_more : (g : Gen) (hash seen : ℕ) (e : Entry) → bucket g.entries (bucket_at g.capacity hash seen) ≡ Some e → ((j : ℕ) → j < seen → IsSet g.entries (bucket_at g.capacity hash j)) → (j : ℕ) → j < seen + 1 → IsSet g.entries (bucket_at g.capacity hash j)
passed_more g hash seen e b p j lt = elim (order j seen) [ inl k ↦ p j k | inr o ↦ elim o [ inl q ↦ (e, rw q b) | inr k ↦ absurd (omega arith) ] ]

-- the bucket of a probe
pub probe_bucket : (w : World) (c : Call) (e : Entry) → (p : Probing w.table.gens c) → bucket_of w.table c.state ≡ Some e → bucket p.gen.entries (bucket_at p.gen.capacity c.state.hash c.state.seen) ≡ Some e
probe_bucket w c e p b = rw (← p.index) (bucket_some w.table c.state p.number p.gen e p.walked p.got b)

-- the place after
pub index_after : (capacity hash seen : ℕ) → (bucket_at capacity hash seen + 1) % capacity ≡ bucket_at capacity hash (seen + 1)
index_after capacity hash seen = mod-add-mod (hash + seen) capacity 1 ∙ ap (λ x. x % capacity) (let e : hash + seen + 1 ≡ hash + (seen + 1) = omega arith in e)

-- one bucket further
pub probing_on : (w : World) (c : Call) (on : Phase) (ls : List ℕ) (e : Entry) → bucket_of w.table c.state ≡ Some e → nat_lt (c.state.seen + 1) c.state.capacity ≡ true → Probing w.table.gens c → Probing w.table.gens (left c (next_bucket on c.state) ls)
probing_on w c on ls e b lt p = record {
  of = p.of;
  index = rw (p.capacity, p.index) (index_after p.gen.capacity c.state.hash c.state.seen);
  below = let l : c.state.seen + 1 < c.state.capacity = ltb-true (c.state.seen + 1) c.state.capacity lt in rw p.capacity at l;
  passed = passed_more p.gen c.state.hash c.state.seen e (probe_bucket w c e p b) p.passed;
}

pub probing_row : (w : World) (c : Call) {p : Phase} {x : Event} {a : Answer} {r : CallState} {ls : List ℕ} {t : Table} {q : Option Reply} → Row w c p x a r ls t q → AllSeated w → (probing p ≡ true → Probing w.table.gens c) → probing r.phase ≡ true → Probing w.table.gens (left c r ls)
probing_row w c (loads n g h) s q z = probing_first w.table c g Probe _ h (s.gens _ g h).roomy
probing_row w c (looks n g h) s q z = probing_first w.table c g LookProbe _ h (s.gens _ g h).roomy
probing_row w c (goes_on _ _ e b f lt) s q z = probing_on w c Probe _ e b lt (q refl)
probing_row w c (goes_on_unasked _ _ e b f lt) s q z = probing_on w c Probe _ e b lt (q refl)
probing_row w c (loses_goes_on _ _ e b f lt) s q z = probing_on w c Probe _ e b lt (q refl)
probing_row w c (loses_goes_on_unasked _ _ e b f lt) s q z = probing_on w c Probe _ e b lt (q refl)
probing_row w c (look_goes_on _ _ e b f lt) s q z = probing_on w c LookProbe _ e b lt (q refl)
probing_row w c (look_goes_on_unasked _ _ e b f lt) s q z = probing_on w c LookProbe _ e b lt (q refl)
probing_row w c (reads_empty _ _ _) s q z = let o = q refl in record { of = o.of; index = o.index; below = o.below; passed = o.passed }
probing_row w c _ s q z = absurd (cc)

-- a value has come into the bucket of its call's probe
pub stands_row : (w : World) (c : Call) {p : Phase} {x : Event} {a : Answer} {r : CallState} {ls : List ℕ} {t : Table} {q : Option Reply} → Row w c p x a r ls t q → (probing p ≡ true → Probing w.table.gens c) → is_placed r.phase ≡ true → stands_at_bucket r ≡ true
stands_row w c (puts _ _ _) q z = at_bucket w.table.gens c (q refl)
stands_row w c _ q z = absurd (cc)

-- a call that probes has a generation of some buckets
probe_room : (gens : List Gen) (c : Call) → Probing gens c → 0 < c.state.capacity
probe_room gens c p = let q = p.below in let e = p.capacity in omega arith

bucket_room : (s : CallState) → stands_at_bucket s ≡ true → 0 < s.capacity
bucket_room s h = let l : s.index < s.capacity = ltb-true s.index s.capacity (and_parts _ _ h).0 in omega arith

-- what is measured has buckets
pub measures_row : (w : World) (c : Call) {p : Phase} {x : Event} {a : Answer} {r : CallState} {ls : List ℕ} {t : Table} {q : Option Reply} → Row w c p x a r ls t q → AllSeated w → (probing p ≡ true → Probing w.table.gens c) → (is_placed p ≡ true → stands_at_bucket c.state ≡ true) → (measuring p ≡ true → 0 < c.state.capacity) → measuring r.phase ≡ true → 0 < r.capacity
measures_row w c (meets _ _ _ _ _) s q o m z = probe_room w.table.gens c (q refl)
measures_row w c (loses_meets _ _ _ _ _) s q o m z = probe_room w.table.gens c (q refl)
measures_row w c (adds _) s q o m z = bucket_room c.state (o refl)
measures_row w c (leaves_ok _) s q o m z = m refl
measures_row w c (len_loads _ g h) s q o m z = (s.gens _ g h).roomy
measures_row w c _ s q o m z = absurd (cc)

pub walking_on : (w : World) (c : Call) (r : CallState) (ls : List ℕ) → r ≡ record c.state { phase = WalkAt; index = c.state.index + 1 } → nat_lt (c.state.index + 1) c.state.capacity ≡ true → Walking w.table.gens c → Walking w.table.gens (left c r ls)
walking_on w c r ls e lt p = rw e (record { of = p.of; below = let l : c.state.index + 1 < c.state.capacity = ltb-true (c.state.index + 1) c.state.capacity lt in rw p.capacity at l })

pub walking_row : (w : World) (c : Call) {p : Phase} {x : Event} {a : Answer} {r : CallState} {ls : List ℕ} {t : Table} {q : Option Reply} → Row w c p x a r ls t q → AllSeated w → (is_walking p ≡ true → Walking w.table.gens c) → is_walking r.phase ≡ true → Walking w.table.gens (left c r ls)
walking_row w c (walk_loads n g h) s q z = record { of = walked_now w.table g h; below = (s.gens _ g h).roomy }
walking_row w c (walk_skips _ _ _ lt) s q z = walking_on w c _ _ refl lt (q refl)
walking_row w c (walk_takes _ _ _ _ lt) s q z = walking_on w c _ _ refl lt (q refl)
walking_row w c _ s q z = absurd (cc)

-- a probe that has seen its last bucket
pub turned_now : (w : World) (c : Call) (ls : List ℕ) (e : Entry) → bucket_of w.table c.state ≡ Some e → nat_lt (c.state.seen + 1) c.state.capacity ≡ false → Probing w.table.gens c → Turned w.table.gens (left c (turned LeaveGrow c.state) ls)
turned_now w c ls e b lt p = record {
  full = λ k h.
      let m : p.number ≡ k = (let x : Some p.number ≡ Some k = sym p.walked ∙ h in cc) in
      let l : c.state.capacity ≤ c.state.seen + 1 = ltb-false (c.state.seen + 1) c.state.capacity lt in
      let n : p.gen.capacity ≤ c.state.seen + 1 = rw p.capacity at l in
      (p.gen, rw m at p.got, λ j q. passed_more p.gen c.state.hash c.state.seen e (probe_bucket w c e p b) p.passed j (omega arith));
}

-- what an outcome says in one phase it says in another
pub growth_from : (p q : Phase) → implies (wants_growth q Pending) (wants_growth p Pending) ≡ true → ((i : ℕ) → wants_growth q (New i) ≡ false) → ((i : ℕ) → wants_growth q (Existing i) ≡ false) → (o : Outcome) → wants_growth q o ≡ true → wants_growth p o ≡ true
growth_from p q h n e Pending k = imply (wants_growth q Pending) (wants_growth p Pending) h k
growth_from p q h n e (New i) k = absurd (let z : wants_growth q (New i) ≡ false = n i in cc)
growth_from p q h n e (Existing i) k = absurd (let z : wants_growth q (Existing i) ≡ false = e i in cc)

pub turned_same : (gens : List Gen) (c : Call) (s : CallState) (ls : List ℕ) → s.walked ≡ c.state.walked → s.hash ≡ c.state.hash → Turned gens c → Turned gens (left c s ls)
turned_same gens c s ls e h t = record { full = λ k w. let f = t.full k (sym e ∙ w) in (f.0, f.1, rw h f.2) }

-- a call that asks its size has an outcome
pub asking_outcome : (b : Bool) (o : Outcome) → fitting b AskSize o ≡ true → wants_growth WantOwned o ≡ true → ⊥
asking_outcome true Pending f h = cc
asking_outcome false Pending f h = cc
asking_outcome b (New i) f h = cc
asking_outcome b (Existing i) f h = cc

pub turned_row : (w : World) (c : Call) {p : Phase} {x : Event} {a : Answer} {r : CallState} {ls : List ℕ} {t : Table} {q : Option Reply} → Row w c p x a r ls t q → fitting (is_some c.value) p c.state.outcome ≡ true → (probing p ≡ true → Probing w.table.gens c) → (wants_growth p c.state.outcome ≡ true → Turned w.table.gens c) → wants_growth r.phase r.outcome ≡ true → Turned w.table.gens (left c r ls)
turned_row w c (loads_none _ _) f q u z = record { full = λ k h. absurd (cc) }
turned_row w c (turns _ _ e b _ lt) f q u z = turned_now w c _ e b lt (q refl)
turned_row w c (turns_unasked _ _ e b _ lt) f q u z = turned_now w c _ e b lt (q refl)
turned_row w c (loses_turns _ _ e b _ lt) f q u z = turned_now w c _ e b lt (q refl)
turned_row w c (loses_turns_unasked _ _ e b _ lt) f q u z = turned_now w c _ e b lt (q refl)
turned_row w c (leaves_grow _) f q u z = turned_same w.table.gens c _ _ refl refl (u refl)
turned_row w c (large _ _ _ _) f q u z = absurd (asking_outcome (is_some c.value) c.state.outcome f z)
turned_row w c (owns _ _) f q u z = turned_same w.table.gens c _ _ refl refl (u (growth_from WantOwned Owned refl (λ i. refl) (λ i. refl) c.state.outcome z))
turned_row w c (begins_first _ _) f q u z = turned_same w.table.gens c _ _ refl refl (u (growth_from Owned Building refl (λ i. refl) (λ i. refl) c.state.outcome z))
turned_row w c (begins_next _ _ _ _ _) f q u z = turned_same w.table.gens c _ _ refl refl (u (growth_from Owned Building refl (λ i. refl) (λ i. refl) c.state.outcome z))
turned_row w c (unwanted _ _ _ _ _) f q u z = turned_same w.table.gens c _ _ refl refl (u (growth_from Owned LeaveOwned refl (λ i. refl) (λ i. refl) c.state.outcome z))
turned_row w c (fails_first _ _) f q u z = turned_same w.table.gens c _ _ refl refl (u (growth_from Owned LeaveFailed refl (λ i. refl) (λ i. refl) c.state.outcome z))
turned_row w c (fails_largest _ _ _ _ _ _) f q u z = turned_same w.table.gens c _ _ refl refl (u (growth_from Owned LeaveFailed refl (λ i. refl) (λ i. refl) c.state.outcome z))
turned_row w c (fails_refused _ _ _ _) f q u z = turned_same w.table.gens c _ _ refl refl (u (growth_from Owned LeaveFailed refl (λ i. refl) (λ i. refl) c.state.outcome z))
turned_row w c (copies _ _ _ _) f q u z = turned_same w.table.gens c _ _ refl refl (u (growth_from Building Building refl (λ i. refl) (λ i. refl) c.state.outcome z))
turned_row w c (shows _ _) f q u z = turned_same w.table.gens c _ _ refl refl (u (growth_from Building LeaveOwned refl (λ i. refl) (λ i. refl) c.state.outcome z))
turned_row w c _ f q u z = absurd (cc)

-- an accepted entry

pub met_now : (w : World) (c : Call) (p : Phase) (ls : List ℕ) (e : Entry) → bucket_of w.table c.state ≡ Some e → Met w.table.gens (left c (finds_entry p c.state) ls)
met_now w c p ls e b = record { there = λ i h. let x : c.state.index ≡ i = cc in (e, rw (← x) b) }

pub met_same : (gens : List Gen) (c : Call) (s : CallState) (ls : List ℕ) → s.walked ≡ c.state.walked → s.outcome ≡ c.state.outcome → Met gens c → Met gens (left c s ls)
met_same gens c s ls e h m = record { there = λ i o. let q = m.there i (sym h ∙ o) in (q.0, rw e q.1) }

-- no call has met an entry in this phase
abbrev pub MeetsNone : Phase → Type 0
MeetsNone p = (i : ℕ) → (fitting true p (Existing i) ≡ false) × (fitting false p (Existing i) ≡ false)

-- a call that loads has no outcome yet
pub load_outcome : (p : Phase) → MeetsNone p → (b : Bool) (o : Outcome) → fitting b p o ≡ true → (i : ℕ) → o ≡ Existing i → ⊥
load_outcome p n true o f i e = let x : fitting true p (Existing i) ≡ true = rw e at f in let y : fitting true p (Existing i) ≡ false = (n i).0 in cc
load_outcome p n false o f i e = let x : fitting false p (Existing i) ≡ true = rw e at f in let y : fitting false p (Existing i) ≡ false = (n i).1 in cc

pub met_row : (w : World) (c : Call) {p : Phase} {x : Event} {a : Answer} {r : CallState} {ls : List ℕ} {t : Table} {q : Option Reply} → Row w c p x a r ls t q → fitting (is_some c.value) p c.state.outcome ≡ true → Met w.table.gens c → Met w.table.gens (left c r ls)
met_row w c (meets _ _ e b _) f m = met_now w c LeaveOk _ e b
met_row w c (loses_meets _ _ e b _) f m = met_now w c LeaveOk _ e b
met_row w c (look_meets _ _ e b _) f m = met_now w c Done _ e b
met_row w c (adds _) f m = record { there = λ i h. absurd (cc) }
met_row w c (loads _ _ _) f m = record { there = λ i h. absurd (load_outcome Shared (λ i. (refl, refl)) (is_some c.value) c.state.outcome f i h) }
met_row w c (loads_none _ _) f m = record { there = λ i h. absurd (load_outcome Shared (λ i. (refl, refl)) (is_some c.value) c.state.outcome f i h) }
met_row w c (looks _ _ _) f m = record { there = λ i h. absurd (load_outcome LookLoad (λ i. (refl, refl)) (is_some c.value) c.state.outcome f i h) }
met_row w c (len_loads _ _ _) f m = record { there = λ i h. absurd (load_outcome LenLoad (λ i. (refl, refl)) (is_some c.value) c.state.outcome f i h) }
met_row w c (walk_loads _ _ _) f m = record { there = λ i h. absurd (load_outcome WalkLoad (λ i. (refl, refl)) (is_some c.value) c.state.outcome f i h) }
met_row w c _ f m = met_same w.table.gens c _ _ refl refl m

pub tracked_row : (w : World) (c : Call) {p : Phase} {x : Event} {a : Answer} {r : CallState} {ls : List ℕ} {t : Table} {q : Option Reply} → Row w c p x a r ls t q → c.state.phase ≡ p → CallOk (length w.table.gens) c → AllSeated w → Tracked w.table.gens c → Tracked w.table.gens (left c r ls)
tracked_row w c row e k s t = record {
  probes = probing_row w c row s (λ h. t.probes (ap probing e ∙ h));
  stands = stands_row w c row (λ h. t.probes (ap probing e ∙ h));
  measures = measures_row w c row s (λ h. t.probes (ap probing e ∙ h)) (λ h. t.stands (ap is_placed e ∙ h)) (λ h. t.measures (ap measuring e ∙ h));
  walks = walking_row w c row s (λ h. t.walks (ap is_walking e ∙ h));
  turned = turned_row w c row (fit_at c _ _ k e) (λ h. t.probes (ap probing e ∙ h)) (λ h. t.turned (ap (λ z. wants_growth z c.state.outcome) e ∙ h));
  met = met_row w c row (fit_at c _ _ k e) t.met;
}

pub begin_tracks : (gens : List Gen) {x : Event} {n : ℕ} {v : Option ℕ} {p : Phase} {h : ℕ} → Opens x n v p h → Tracked gens (starts n v p h)
begin_tracks gens (opens_insert n v h) = record { probes = λ e. absurd (cc); stands = λ e. absurd (cc); measures = λ e. absurd (cc); walks = λ e. absurd (cc); turned = λ e. absurd (cc); met = record { there = λ i e. absurd (cc) } }
begin_tracks gens (opens_lookup n h) = record { probes = λ e. absurd (cc); stands = λ e. absurd (cc); measures = λ e. absurd (cc); walks = λ e. absurd (cc); turned = λ e. absurd (cc); met = record { there = λ i e. absurd (cc) } }
begin_tracks gens (opens_len n) = record { probes = λ e. absurd (cc); stands = λ e. absurd (cc); measures = λ e. absurd (cc); walks = λ e. absurd (cc); turned = λ e. absurd (cc); met = record { there = λ i e. absurd (cc) } }
begin_tracks gens (opens_walk n) = record { probes = λ e. absurd (cc); stands = λ e. absurd (cc); measures = λ e. absurd (cc); walks = λ e. absurd (cc); turned = λ e. absurd (cc); met = record { there = λ i e. absurd (cc) } }

pub keeps_tracked : {w v : World} {x : Event} {a : Option Act} {r : Option Finished} → Turn w x a v r → CallsOk w → AllSeated w → AllTracked w → AllTracked v
keeps_tracked rests k s t = t
keeps_tracked {w = w} (opens n v p h ra b u f) k s t = record { at = λ i c g. elim (get-push w.calls (starts n v p h) c i g) [ inl q ↦ rw q.1 (begin_tracks w.table.gens b) | inr q ↦ t.at i c q ] }
keeps_tracked {w = w} (takes i c p a s list t o g e row nu) k z y = record {
  at = λ j d m. elim (get-set w.calls i j c (left c s list) d g m) [
    | inl q ↦ rw q.1 (tracked_grown w.table.gens t.gens (left c s list) (row_grew w c row) (tracked_row w c row e (k.at i c g) z (y.at i c g)))
    | inr q ↦ tracked_grown w.table.gens t.gens d (row_grew w c row) (y.at j d q.1)
  ];
}

pub tracked_empty : (first : ℕ) → AllTracked (empty first)
tracked_empty first = record { at = λ i c h. absurd (cc) }
