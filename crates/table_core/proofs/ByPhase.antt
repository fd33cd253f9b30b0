-- What each step does, by the phase in which it is taken.
use Rattle.std.proofs.Common.{◌≡◌, ◌<◌, ◌+◌, ◌*◌, ◌^◌, ℕ, zero, suc, refl, sym, ap, subst, ◌∙◌, Bool, true, false, nat_lt, arith, rules}
use Rattle.std.specs.Prelude.{if◌then◌else◌, ◌&&◌, ◌%◌, ◌⊎◌, ◌≢◌}
use Rattle.std.proofs.Common.{inl, inr}
use Rattle.std.proofs.lemmas.Bool.{ltb-true, lt-ltb}
use Rattle.std.proofs.Math.Nat.{mod-lt}
use Rattle.table_core.specs.declared.call.Phase.{Phase}
use Rattle.table_core.specs.declared.call.Phase.TheVariants.{WantShared, Shared, Probe, AtEmpty, Placed, LeaveOk, LeaveGrow, LeaveRefused, AskSize, WantOwned, Building, LeaveOwned, LeaveFailed, LookLoad, LookProbe, Done}
use Rattle.table_core.specs.declared.call.Outcome.{Outcome}
use Rattle.table_core.specs.declared.call.Outcome.TheVariants.{Pending, New, Existing}
use Rattle.table_core.specs.declared.call.Answer.TheVariants.{Loaded, Holds, Empty}
use Rattle.table_core.specs.declared.call.CallState.{CallState}
use Rattle.table_core.specs.Calls.{decided, fits, to, passes, probes, stands_at_bucket, is_pending, finds_entry}
use Rattle.table_core.specs.Phases.{Free, Owns}
use Rattle.table_terms.specs.Probes.{bucket_at}
use Rattle.std.specs.Int.{IsPowerOfTwo}
use Rattle.table_core.specs.RunningPhases.{Inserts, Meets, MeetsEntry, ReadsBucket, AtBucket, Hopes, Walks, Leaves, lock_in, left, left_in, reached, reached_by}
use Rattle.table_core.specs.RunningSteps.{LeavesWith, Leaving, Passing, Starting, LookingPast, passed, released}

-- The release of a lock

-- an insert that holds no lock stands at no bucket
at_no_bucket : (q : Phase) → lock_in q ≡ Free → AtBucket q → ⊥
at_no_bucket Probe l a = absurd (cc)
at_no_bucket AtEmpty l a = absurd (cc)
at_no_bucket Placed l a = absurd (cc)
at_no_bucket _ l a = a

-- and builds nothing
not_building : (q : Phase) → lock_in q ≡ Free → q ≢ Building
not_building q l e = let owns : Owns ≡ Free = ap lock_in (sym e) ∙ l in absurd (cc)

-- an insert goes to a phase in which it holds no lock, and reaches there what its phase before said
leaving : (p q : Phase) → (s : CallState) → Inserts q → lock_in q ≡ Free → (Walks q → Walks p) → (Walks q → nat_lt 0 s.capacity ≡ true) → (Hopes q → s.outcome ≡ Pending) → reached q s.outcome ≡ reached p s.outcome → Leaving (to p s) (to q s)
leaving p q s i l w c h r = record {
  inserts = i;
  lock = l;
  at_no_bucket = at_no_bucket q l;
  not_building = not_building q l;
  walks = w;
  wide = c;
  pending = h;
  same = (refl, refl);
  reached = r;
}

-- an insert that ends
to_done : (p : Phase) → (s : CallState) → reached p s.outcome ≡ reached_by s.outcome → Leaving (to p s) (to Done s)
to_done p s e = leaving p Done s refl refl (λ x. absurd x) (λ x. absurd x) (λ x. absurd x) (sym e)

-- an insert that starts over
to_start : (p : Phase) → (s : CallState) → reached p s.outcome ≡ reached_by s.outcome → s.outcome ≡ Pending → Leaving (to p s) (to WantShared s)
to_start p s e o = leaving p WantShared s refl refl (λ x. absurd x) (λ x. absurd x) (λ x. o) (sym e)

-- growth is over
by_end : (o : Outcome) → (s : CallState) → s.outcome ≡ o → Leaving (to LeaveOwned s) (if is_pending o then to WantShared s else to Done s)
by_end Pending s e = to_start LeaveOwned s refl e
by_end (New i) s e = to_done LeaveOwned s refl
by_end (Existing i) s e = to_done LeaveOwned s refl

-- growth has failed
by_failure : (o : Outcome) → (b : Bool) → (s : CallState) → s.outcome ≡ o → Leaving (to LeaveFailed s) (if is_pending o && (if b then false else true) then to WantShared s else to Done s)
by_failure Pending true s e = to_done LeaveFailed s refl
by_failure Pending false s e = to_start LeaveFailed s refl e
by_failure (New i) b s e = to_done LeaveFailed s refl
by_failure (Existing i) b s e = to_done LeaveFailed s refl

leaves_in : (p : Phase) → (s : CallState) → (b : Bool) → Leaves p → LeavesWith (to p s) → Leaving (to p s) (decided p (to p s) (released p b))
leaves_in LeaveOk s b l w = leaving LeaveOk AskSize s refl refl (λ x. tt) w.1 (λ x. absurd x) refl
leaves_in LeaveGrow s b l w = leaving LeaveGrow WantOwned s refl refl (λ x. absurd x) (λ x. absurd x) (λ x. absurd x) refl
leaves_in LeaveRefused s b l w = to_done LeaveRefused s refl
leaves_in LeaveOwned s b l w = by_end s.outcome s refl
leaves_in LeaveFailed s b l w = by_failure s.outcome b s refl
leaves_in _ s b l w = absurd l

-- an insert that releases its lock in any phase that does
pub leaves_by : (s : CallState) → (b : Bool) → Leaves s.phase → LeavesWith s → Leaving s (decided s.phase s (released s.phase b))
leaves_by s b l w = leaves_in s.phase s b l w

release_fits_in : (p : Phase) → (s : CallState) → (b : Bool) → Leaves p → fits p s (released p b) ≡ true
release_fits_in LeaveOk s b l = refl
release_fits_in LeaveGrow s b l = refl
release_fits_in LeaveRefused s b l = refl
release_fits_in LeaveOwned s b l = refl
release_fits_in LeaveFailed s b l = refl
release_fits_in _ s b l = absurd l

-- the answer of a release fits
pub release_fits : (s : CallState) → (b : Bool) → Leaves s.phase → fits s.phase s (released s.phase b) ≡ true
release_fits s b l = release_fits_in s.phase s b l

-- Passing an entry

and-true : (a b : Bool) → a ≡ true → b ≡ true → (a && b) ≡ true
and-true true true h k = refl
and-true true false h k = k
and-true false b h k = h

-- a bucket and a count of buckets below the capacity
stands : (s : CallState) → s.index < s.capacity → s.seen < s.capacity → stands_at_bucket s ≡ true
stands s i k = and-true (nat_lt s.index s.capacity) (nat_lt s.seen s.capacity) (lt-ltb s.index s.capacity i) (lt-ltb s.seen s.capacity k)

passes_on : (b : Bool) → (s : CallState) → nat_lt (s.seen + 1) s.capacity ≡ b → stands_at_bucket s ≡ true → s.outcome ≡ Pending → Passing s (if b then record s { phase = Probe; index = (s.index + 1) % s.capacity; seen = s.seen + 1 } else record s { phase = LeaveGrow; seen = s.seen + 1 })
passes_on true s e h o =
    let k : s.seen + 1 < s.capacity = ltb-true (s.seen + 1) s.capacity e in
    let w : 0 < s.capacity = omega (arith, k) in
    record {
      inserts = refl;
      lock = refl;
      stands = λ x. stands (record s { phase = Probe; index = (s.index + 1) % s.capacity; seen = s.seen + 1 }) (mod-lt (s.index + 1) w) k;
      not_building = search rules;
      not_empty = search rules;
      wide = λ x. lt-ltb 0 s.capacity w;
      same = (refl, refl, refl);
      pending = o;
      reached = refl;
    }
passes_on false s e h o = record {
  inserts = refl;
  lock = refl;
  stands = λ x. absurd x;
  not_building = search rules;
  not_empty = search rules;
  wide = λ x. absurd x;
  same = (refl, refl, refl);
  pending = o;
  reached = refl;
}

passed_in : (p : Phase) → (s : CallState) → (asked : Bool) → Meets p → decided p s (passed asked) ≡ passes Probe LeaveGrow s
passed_in Probe s true m = refl
passed_in Probe s false m = refl
passed_in AtEmpty s true m = refl
passed_in AtEmpty s false m = refl
passed_in _ s asked m = absurd m

-- an insert that passes an entry
pub passes_by : (s : CallState) → (asked : Bool) → Meets s.phase → stands_at_bucket s ≡ true → s.outcome ≡ Pending → Passing s (decided s.phase s (passed asked))
passes_by s asked m h o = subst (λ (t : CallState). Passing s t) (sym (passed_in s.phase s asked m)) (passes_on (nat_lt (s.seen + 1) s.capacity) s refl h o)

passed_fits_in : (p : Phase) → (s : CallState) → (asked : Bool) → MeetsEntry p → stands_at_bucket s ≡ true → fits p s (passed asked) ≡ true
passed_fits_in Probe s true m h = h
passed_fits_in Probe s false m h = h
passed_fits_in AtEmpty s true m h = h
passed_fits_in AtEmpty s false m h = h
passed_fits_in LookProbe s true m h = h
passed_fits_in LookProbe s false m h = h
passed_fits_in _ s asked m h = absurd m

-- what a call found that passes an entry fits where it stands at a bucket
pub passed_fits : (s : CallState) → (asked : Bool) → MeetsEntry s.phase → stands_at_bucket s ≡ true → fits s.phase s (passed asked) ≡ true
passed_fits s asked m h = passed_fits_in s.phase s asked m h

-- Accepting an entry

accepted_in : (p : Phase) → (s : CallState) → Meets p → decided p s (Holds true) ≡ finds_entry LeaveOk s
accepted_in Probe s m = refl
accepted_in AtEmpty s m = refl
accepted_in _ s m = absurd m

-- an insert that accepts an entry
pub accepted_by : (s : CallState) → Meets s.phase → decided s.phase s (Holds true) ≡ finds_entry LeaveOk s
accepted_by s m = accepted_in s.phase s m

accepted_fits_in : (p : Phase) → (s : CallState) → MeetsEntry p → stands_at_bucket s ≡ true → fits p s (Holds true) ≡ true
accepted_fits_in Probe s m h = h
accepted_fits_in AtEmpty s m h = h
accepted_fits_in LookProbe s m h = h
accepted_fits_in _ s m h = absurd m

empty_fits_in : (p : Phase) → (s : CallState) → ReadsBucket p → stands_at_bucket s ≡ true → fits p s Empty ≡ true
empty_fits_in Probe s r h = h
empty_fits_in LookProbe s r h = h
empty_fits_in _ s r h = absurd r

-- an empty bucket fits where the call stands at it
pub empty_fits : (s : CallState) → ReadsBucket s.phase → stands_at_bucket s ≡ true → fits s.phase s Empty ≡ true
empty_fits s r h = empty_fits_in s.phase s r h

reads_entry_in : (p : Phase) → ReadsBucket p → MeetsEntry p
reads_entry_in Probe r = tt
reads_entry_in LookProbe r = tt
reads_entry_in _ r = absurd r

-- a call that reads a bucket can meet an entry
pub reads_entry : (s : CallState) → ReadsBucket s.phase → MeetsEntry s.phase
reads_entry s r = reads_entry_in s.phase r

-- an accepted entry fits where the call stands at a bucket
pub accepted_fits : (s : CallState) → MeetsEntry s.phase → stands_at_bucket s ≡ true → fits s.phase s (Holds true) ≡ true
accepted_fits s m h = accepted_fits_in s.phase s m h

-- The first bucket

starts : (p : Phase) → (s : CallState) → (g n : ℕ) → 0 < n → Starting s (probes p s g n) g n
starts p s g n h = record {
  stands = stands (probes p s g n) (mod-lt s.hash h) h;
  wide = lt-ltb 0 n h;
  walked = (refl, refl, refl);
}

loaded_in : (p : Phase) → (s : CallState) → (g n : ℕ) → (p ≡ Shared) ⊎ (p ≡ LookLoad) → 0 < n → Starting s (decided p s (Loaded g n)) g n
loaded_in Shared s g n e h = starts Probe s g n h
loaded_in LookLoad s g n e h = starts LookProbe s g n h
loaded_in _ s g n (inl e) h = absurd (cc)
loaded_in _ s g n (inr e) h = absurd (cc)

-- a call that has loaded a generation
pub loaded_by : (s : CallState) → (g n : ℕ) → (s.phase ≡ Shared) ⊎ (s.phase ≡ LookLoad) → 0 < n → Starting s (decided s.phase s (Loaded g n)) g n
loaded_by s g n e h = loaded_in s.phase s g n e h

starts_in : (p : Phase) → (s : CallState) → (g n : ℕ) → (p ≡ Shared) ⊎ (p ≡ LookLoad) → (decided p s (Loaded g n)).index ≡ s.hash % n
starts_in Shared s g n e = refl
starts_in LookLoad s g n e = refl
starts_in _ s g n (inl e) = absurd (cc)
starts_in _ s g n (inr e) = absurd (cc)

-- whose first bucket it finds as any probe does
pub starts_masked : (s t : CallState) → (g n bucket : ℕ) → (s.phase ≡ Shared) ⊎ (s.phase ≡ LookLoad) → t ≡ decided s.phase s (Loaded g n) → bucket ≡ bucket_at n s.hash 0 → record t { index = bucket } ≡ t
starts_masked s t g n bucket e is first =
    let whole : bucket_at n s.hash 0 ≡ s.hash % n = ap (λ (k : ℕ). k % n) (omega arith) in
    ap (λ (i : ℕ). record t { index = i }) (first ∙ whole ∙ sym (ap (λ (u : CallState). u.index) is ∙ starts_in s.phase s g n e))

power_positive : (k : ℕ) → 0 < 2 ^ k
power_positive zero = omega arith
power_positive (suc k) = let double : 2 ^ suc k ≡ 2 * 2 ^ k = omega arith in let half = power_positive k in omega (arith, double, half)

-- so many buckets are some
pub power_some : (n : ℕ) → IsPowerOfTwo n → 0 < n
power_some n p = rw p.1 (power_positive p.0)

-- A look-up passes an entry

looks_on : (b : Bool) → (s : CallState) → nat_lt (s.seen + 1) s.capacity ≡ b → s.phase ≡ LookProbe → stands_at_bucket s ≡ true → LookingPast s (if b then record s { phase = LookProbe; index = (s.index + 1) % s.capacity; seen = s.seen + 1 } else record s { phase = Done; seen = s.seen + 1 })
looks_on true s e p h =
    let k : s.seen + 1 < s.capacity = ltb-true (s.seen + 1) s.capacity e in
    let w : 0 < s.capacity = omega (arith, k) in
    let n : CallState = record s { phase = LookProbe; index = (s.index + 1) % s.capacity; seen = s.seen + 1 } in
    record {
      looks = refl;
      started = search rules;
      less = subst (λ (q : Phase). left n < left_in q s) (sym p) (omega (arith, k));
      stands = λ x. stands n (mod-lt (s.index + 1) w) k;
      same = (refl, refl, refl);
    }
looks_on false s e p h = record {
  looks = refl;
  started = search rules;
  less = subst (λ (q : Phase). 0 < left_in q s) (sym p) (omega arith);
  stands = search rules;
  same = (refl, refl, refl);
}

looked_in : (p : Phase) → (s : CallState) → (asked : Bool) → p ≡ LookProbe → decided p s (passed asked) ≡ passes LookProbe Done s
looked_in LookProbe s true e = refl
looked_in LookProbe s false e = refl
looked_in _ s asked e = absurd (cc)

-- a look-up that passes an entry
pub looks_past : (s : CallState) → (asked : Bool) → s.phase ≡ LookProbe → stands_at_bucket s ≡ true → LookingPast s (decided s.phase s (passed asked))
looks_past s asked e h = subst (λ (t : CallState). LookingPast s t) (sym (looked_in s.phase s asked e)) (looks_on (nat_lt (s.seen + 1) s.capacity) s refl e h)
