-- The table of events, as a relation: one case a row, in the order of the phases.
use Rattle.std.specs.Prelude.{ℕ, ◌+◌, ◌-◌, ◌/◌, ◌%◌, ◌^◌, ◌==◌, ◌&&◌, ◌≡◌, nat_lt, not, Bool}
use Rattle.std.specs.Prelude.{true, false, Option, Some, None, List, [], ◌∷◌, ◌++◌, length}
use Rattle.table_core.specs.Replies.{Reply, ReplySome, ReplyNone, ReplyLen, ReplyWalk, Finished}
use Rattle.table_core.specs.Generations.{Gen, Table, current, is_current, next_copied, copy_on}
use Rattle.table_terms.specs.Hashes.{bits_of}
use Rattle.table_core.specs.Calls.{Call, starts, is_used, is_used_value, call_numbered, replaced}
use Rattle.table_core.specs.Calls.{is_owned, is_locked, holds_shared, holds_owned, to, probes}
use Rattle.table_core.specs.Calls.{finds_entry, is_pending}
use Rattle.table_core.specs.Machine.{World, Act, Begins, Goes, walked_gen, bucket_of, place}
use Rattle.table_core.specs.Machine.{add_one, begin_growth, show_built, refused, by_outcome}
use Rattle.table_core.specs.Machine.{number_of, in_range, finished_call, acts, happens, finishes}
use Rattle.table_core.specs.declared.event.Event.{Event}
use Rattle.table_core.specs.declared.event.Event.TheVariants.{Insert, Lookup, Len, Walk, Share}
use Rattle.table_core.specs.declared.event.Event.TheVariants.{Own, Free, Load, Read, Put, Add}
use Rattle.table_core.specs.declared.event.Event.TheVariants.{Size, Check, Copy, Show}
use Rattle.table_core.specs.declared.generation.Entry.{Entry}
use Rattle.table_core.specs.declared.call.CallState.{CallState}
use Rattle.table_core.specs.declared.call.Phase.{Phase}
use Rattle.table_core.specs.declared.call.Phase.TheVariants.{WantShared, Shared, Probe, AtEmpty}
use Rattle.table_core.specs.declared.call.Phase.TheVariants.{Placed, LeaveOk, LeaveGrow}
use Rattle.table_core.specs.declared.call.Phase.TheVariants.{LeaveRefused, AskSize, WantOwned}
use Rattle.table_core.specs.declared.call.Phase.TheVariants.{Owned, Building, LeaveOwned}
use Rattle.table_core.specs.declared.call.Phase.TheVariants.{LeaveFailed, LookLoad, LookProbe}
use Rattle.table_core.specs.declared.call.Phase.TheVariants.{LenLoad, LenSize, WalkLoad, WalkAt}
use Rattle.table_core.specs.declared.call.Phase.TheVariants.{Done}
use Rattle.table_core.specs.declared.call.Outcome.TheVariants.{New}
use Rattle.table_core.specs.declared.call.Answer.{Answer}
use Rattle.table_core.specs.declared.call.Answer.TheVariants.{Taken, Released}
use Rattle.table_core.specs.declared.call.Answer.TheVariants.{ReleasedAfterFailure, NoGeneration}
use Rattle.table_core.specs.declared.call.Answer.TheVariants.{Loaded, Empty, Holds, HoldsUnasked}
use Rattle.table_core.specs.declared.call.Answer.TheVariants.{Won, MemoryRefused, Counted, Sized}
use Rattle.table_core.specs.declared.call.Answer.TheVariants.{Begun, Unwanted, Failed, Copied}
use Rattle.table_core.specs.declared.call.Answer.TheVariants.{Shown}

-- whether the call accepts this entry: its bits agree, and the closure says yes
abbrev pub is_accepted : Entry → CallState → Bool → Bool
is_accepted e s y = (e.bits == bits_of s.hash) && y

-- whether it is asked, its bits agreeing, and says no
abbrev pub is_declined : Entry → CallState → Bool → Bool
is_declined e s y = (e.bits == bits_of s.hash) && not y

-- whether nothing is asked, its bits being others
abbrev pub is_unasked : Entry → CallState → Bool
is_unasked e s = not (e.bits == bits_of s.hash)

-- the next bucket of a probe
abbrev pub next_bucket : Phase → CallState → CallState
next_bucket p s = record s { phase = p; index = (s.index + 1) % s.capacity; seen = s.seen + 1 }

-- all buckets of a probe were seen
abbrev pub turned : Phase → CallState → CallState
turned p s = record s { phase = p; seen = s.seen + 1 }

-- A row: the phase and the event, what the event finds, and then the call's state and list, the
-- table, and what the call is told.
pub data Row (w : World) (c : Call) : Phase → Event → Answer → CallState → List ℕ → Table →
    Option Reply → Type 0 where
  -- WantShared: share
  shares : (n : ℕ) → is_owned w.calls ≡ false →
      Row w c WantShared (Share n) Taken (to Shared c.state) c.list w.table None
  -- Shared: load
  loads_none : (n : ℕ) → current w.table ≡ None →
      Row w c Shared (Load n) NoGeneration
      (record c.state { phase = LeaveGrow; walked = None }) c.list w.table None
  loads : (n : ℕ) (g : Gen) → current w.table ≡ Some g →
      Row w c Shared (Load n) (Loaded (length w.table.gens - 1) g.capacity)
      (probes Probe c.state (length w.table.gens - 1) g.capacity) c.list w.table None
  -- Probe: read
  reads_empty : (n : ℕ) (y : Bool) → bucket_of w.table c.state ≡ None →
      Row w c Probe (Read n y) Empty (to AtEmpty c.state) c.list w.table None
  meets : (n : ℕ) (y : Bool) (e : Entry) → bucket_of w.table c.state ≡ Some e →
      is_accepted e c.state y ≡ true →
      Row w c Probe (Read n y) (Holds true) (finds_entry LeaveOk c.state) c.list w.table None
  turns : (n : ℕ) (y : Bool) (e : Entry) → bucket_of w.table c.state ≡ Some e →
      is_declined e c.state y ≡ true → nat_lt (c.state.seen + 1) c.state.capacity ≡ false →
      Row w c Probe (Read n y) (Holds false) (turned LeaveGrow c.state) c.list w.table None
  turns_unasked : (n : ℕ) (y : Bool) (e : Entry) → bucket_of w.table c.state ≡ Some e →
      is_unasked e c.state ≡ true → nat_lt (c.state.seen + 1) c.state.capacity ≡ false →
      Row w c Probe (Read n y) HoldsUnasked (turned LeaveGrow c.state) c.list w.table None
  goes_on : (n : ℕ) (y : Bool) (e : Entry) → bucket_of w.table c.state ≡ Some e →
      is_declined e c.state y ≡ true → nat_lt (c.state.seen + 1) c.state.capacity ≡ true →
      Row w c Probe (Read n y) (Holds false) (next_bucket Probe c.state) c.list w.table None
  goes_on_unasked : (n : ℕ) (y : Bool) (e : Entry) → bucket_of w.table c.state ≡ Some e →
      is_unasked e c.state ≡ true → nat_lt (c.state.seen + 1) c.state.capacity ≡ true →
      Row w c Probe (Read n y) HoldsUnasked (next_bucket Probe c.state) c.list w.table None
  -- AtEmpty: put
  memory_refused : (n : ℕ) (y : Bool) →
      Row w c AtEmpty (Put n y false) MemoryRefused (to LeaveRefused c.state) c.list w.table None
  puts : (n : ℕ) (y : Bool) → bucket_of w.table c.state ≡ None →
      Row w c AtEmpty (Put n y true) Won (to Placed c.state) c.list
      (place w.table c.state c.value) None
  loses_meets : (n : ℕ) (y : Bool) (e : Entry) → bucket_of w.table c.state ≡ Some e →
      is_accepted e c.state y ≡ true →
      Row w c AtEmpty (Put n y true) (Holds true) (finds_entry LeaveOk c.state) c.list w.table None
  loses_turns : (n : ℕ) (y : Bool) (e : Entry) → bucket_of w.table c.state ≡ Some e →
      is_declined e c.state y ≡ true → nat_lt (c.state.seen + 1) c.state.capacity ≡ false →
      Row w c AtEmpty (Put n y true) (Holds false) (turned LeaveGrow c.state) c.list w.table None
  loses_turns_unasked : (n : ℕ) (y : Bool) (e : Entry) → bucket_of w.table c.state ≡ Some e →
      is_unasked e c.state ≡ true → nat_lt (c.state.seen + 1) c.state.capacity ≡ false →
      Row w c AtEmpty (Put n y true) HoldsUnasked (turned LeaveGrow c.state) c.list w.table None
  loses_goes_on : (n : ℕ) (y : Bool) (e : Entry) → bucket_of w.table c.state ≡ Some e →
      is_declined e c.state y ≡ true → nat_lt (c.state.seen + 1) c.state.capacity ≡ true →
      Row w c AtEmpty (Put n y true) (Holds false) (next_bucket Probe c.state) c.list w.table None
  loses_goes_on_unasked : (n : ℕ) (y : Bool) (e : Entry) → bucket_of w.table c.state ≡ Some e →
      is_unasked e c.state ≡ true → nat_lt (c.state.seen + 1) c.state.capacity ≡ true →
      Row w c AtEmpty (Put n y true) HoldsUnasked (next_bucket Probe c.state) c.list w.table None
  -- Placed: add
  adds : (n : ℕ) →
      Row w c Placed (Add n) Counted
      (record c.state { phase = LeaveOk; outcome = New c.state.index }) c.list
      (add_one w.table c.state) None
  -- LeaveOk, LeaveGrow, LeaveRefused: free
  leaves_ok : (n : ℕ) → Row w c LeaveOk (Free n) Released (to AskSize c.state) c.list w.table None
  leaves_grow : (n : ℕ) →
      Row w c LeaveGrow (Free n) Released (to WantOwned c.state) c.list w.table None
  leaves_refused : (n : ℕ) →
      Row w c LeaveRefused (Free n) Released (to Done c.state) c.list w.table (refused c.value)
  -- AskSize: size
  large : (n : ℕ) (g : Gen) → walked_gen w.table c.state ≡ Some g →
      nat_lt g.size (c.state.capacity / 2) ≡ false →
      Row w c AskSize (Size n) (Sized g.size) (to WantOwned c.state) c.list w.table None
  small : (n : ℕ) (g : Gen) → walked_gen w.table c.state ≡ Some g →
      nat_lt g.size (c.state.capacity / 2) ≡ true →
      Row w c AskSize (Size n) (Sized g.size) (to Done c.state) c.list w.table
      (by_outcome w.table c)
  -- WantOwned: own
  owns : (n : ℕ) → is_locked w.calls ≡ false →
      Row w c WantOwned (Own n) Taken (to Owned c.state) c.list w.table None
  -- Owned: check
  begins_first : (n : ℕ) → current w.table ≡ None →
      Row w c Owned (Check n true) Begun (to Building c.state) c.list (begin_growth w.table) None
  fails_first : (n : ℕ) → current w.table ≡ None →
      Row w c Owned (Check n false) Failed (to LeaveFailed c.state) c.list w.table None
  unwanted : (n : ℕ) (m : Bool) (g : Gen) → current w.table ≡ Some g →
      nat_lt g.size (g.capacity / 2) ≡ true →
      Row w c Owned (Check n m) Unwanted (to LeaveOwned c.state) c.list w.table None
  fails_largest : (n : ℕ) (m : Bool) (g : Gen) → current w.table ≡ Some g →
      nat_lt g.size (g.capacity / 2) ≡ false → g.capacity ≡ 2 ^ 63 →
      Row w c Owned (Check n m) Failed (to LeaveFailed c.state) c.list w.table None
  fails_refused : (n : ℕ) (g : Gen) → current w.table ≡ Some g →
      nat_lt g.size (g.capacity / 2) ≡ false →
      Row w c Owned (Check n false) Failed (to LeaveFailed c.state) c.list w.table None
  begins_next : (n : ℕ) (g : Gen) → current w.table ≡ Some g →
      nat_lt g.size (g.capacity / 2) ≡ false → (g.capacity == 2 ^ 63) ≡ false →
      Row w c Owned (Check n true) Begun (to Building c.state) c.list (begin_growth w.table) None
  -- Building: copy, show
  copies : (n h : ℕ) (e : Entry) → next_copied w.table ≡ Some e →
      Row w c Building (Copy n h) Copied (to Building c.state) c.list
      (record w.table { building = copy_on w.table.building e h }) None
  shows : (n : ℕ) → next_copied w.table ≡ None →
      Row w c Building (Show n) Shown (to LeaveOwned c.state) c.list (show_built w.table) None
  -- LeaveOwned: free
  ends : (n : ℕ) → is_pending c.state.outcome ≡ false →
      Row w c LeaveOwned (Free n) Released (to Done c.state) c.list w.table (by_outcome w.table c)
  starts_over : (n : ℕ) → is_pending c.state.outcome ≡ true →
      Row w c LeaveOwned (Free n) Released (to WantShared c.state) c.list w.table None
  -- LeaveFailed: free
  ends_failed : (n : ℕ) → is_pending c.state.outcome ≡ false →
      Row w c LeaveFailed (Free n) (ReleasedAfterFailure
      (is_current w.table.gens c.state.walked)) (to Done c.state) c.list w.table
      (by_outcome w.table c)
  gives_up : (n : ℕ) → is_pending c.state.outcome ≡ true →
      is_current w.table.gens c.state.walked ≡ true →
      Row w c LeaveFailed (Free n) (ReleasedAfterFailure true) (to Done c.state) c.list w.table
      (refused c.value)
  tries_again : (n : ℕ) → is_pending c.state.outcome ≡ true →
      is_current w.table.gens c.state.walked ≡ false →
      Row w c LeaveFailed (Free n) (ReleasedAfterFailure false)
      (to WantShared c.state) c.list w.table None
  -- LookLoad: load
  looks_none : (n : ℕ) → current w.table ≡ None →
      Row w c LookLoad (Load n) NoGeneration (to Done c.state) c.list w.table (Some ReplyNone)
  looks : (n : ℕ) (g : Gen) → current w.table ≡ Some g →
      Row w c LookLoad (Load n) (Loaded (length w.table.gens - 1) g.capacity)
      (probes LookProbe c.state (length w.table.gens - 1) g.capacity) c.list w.table None
  -- LookProbe: read
  look_empty : (n : ℕ) (y : Bool) → bucket_of w.table c.state ≡ None →
      Row w c LookProbe (Read n y) Empty (to Done c.state) c.list w.table (Some ReplyNone)
  look_meets : (n : ℕ) (y : Bool) (e : Entry) → bucket_of w.table c.state ≡ Some e →
      is_accepted e c.state y ≡ true →
      Row w c LookProbe (Read n y) (Holds true) (finds_entry Done c.state) c.list w.table
      (Some (ReplySome e.value))
  look_turns : (n : ℕ) (y : Bool) (e : Entry) → bucket_of w.table c.state ≡ Some e →
      is_declined e c.state y ≡ true → nat_lt (c.state.seen + 1) c.state.capacity ≡ false →
      Row w c LookProbe (Read n y) (Holds false) (turned Done c.state) c.list w.table
      (Some ReplyNone)
  look_turns_unasked : (n : ℕ) (y : Bool) (e : Entry) → bucket_of w.table c.state ≡ Some e →
      is_unasked e c.state ≡ true → nat_lt (c.state.seen + 1) c.state.capacity ≡ false →
      Row w c LookProbe (Read n y) HoldsUnasked (turned Done c.state) c.list w.table
      (Some ReplyNone)
  look_goes_on : (n : ℕ) (y : Bool) (e : Entry) → bucket_of w.table c.state ≡ Some e →
      is_declined e c.state y ≡ true → nat_lt (c.state.seen + 1) c.state.capacity ≡ true →
      Row w c LookProbe (Read n y) (Holds false)
      (next_bucket LookProbe c.state) c.list w.table None
  look_goes_on_unasked : (n : ℕ) (y : Bool) (e : Entry) → bucket_of w.table c.state ≡ Some e →
      is_unasked e c.state ≡ true → nat_lt (c.state.seen + 1) c.state.capacity ≡ true →
      Row w c LookProbe (Read n y) HoldsUnasked (next_bucket LookProbe c.state) c.list w.table None
  -- LenLoad: load
  len_none : (n : ℕ) → current w.table ≡ None →
      Row w c LenLoad (Load n) NoGeneration (to Done c.state) c.list w.table (Some (ReplyLen 0))
  len_loads : (n : ℕ) (g : Gen) → current w.table ≡ Some g →
      Row w c LenLoad (Load n) (Loaded (length w.table.gens - 1) g.capacity)
      (record c.state {
        phase = LenSize;
        walked = Some (length w.table.gens - 1);
        capacity = g.capacity;
      }) c.list w.table None
  -- LenSize: size
  len_size : (n : ℕ) (g : Gen) → walked_gen w.table c.state ≡ Some g →
      Row w c LenSize (Size n) (Sized g.size) (to Done c.state) c.list w.table
      (Some (ReplyLen g.size))
  -- WalkLoad: load
  walk_none : (n : ℕ) → current w.table ≡ None →
      Row w c WalkLoad (Load n) NoGeneration (to Done c.state) c.list w.table (Some (ReplyWalk []))
  walk_loads : (n : ℕ) (g : Gen) → current w.table ≡ Some g →
      Row w c WalkLoad (Load n) (Loaded (length w.table.gens - 1) g.capacity)
      (record c.state {
        phase = WalkAt;
        walked = Some (length w.table.gens - 1);
        capacity = g.capacity;
        index = 0;
      }) c.list w.table None
  -- WalkAt: read
  walk_skips_last : (n : ℕ) (y : Bool) → bucket_of w.table c.state ≡ None →
      nat_lt (c.state.index + 1) c.state.capacity ≡ false →
      Row w c WalkAt (Read n y) Empty
      (record c.state { phase = Done; index = c.state.index + 1 }) [] w.table
      (Some (ReplyWalk c.list))
  walk_takes_last : (n : ℕ) (y : Bool) (e : Entry) → bucket_of w.table c.state ≡ Some e →
      nat_lt (c.state.index + 1) c.state.capacity ≡ false →
      Row w c WalkAt (Read n y) HoldsUnasked
      (record c.state { phase = Done; index = c.state.index + 1 }) [] w.table
      (Some (ReplyWalk (c.list ++ e.value ∷ [])))
  walk_skips : (n : ℕ) (y : Bool) → bucket_of w.table c.state ≡ None →
      nat_lt (c.state.index + 1) c.state.capacity ≡ true →
      Row w c WalkAt (Read n y) Empty
      (record c.state { phase = WalkAt; index = c.state.index + 1 }) c.list w.table None
  walk_takes : (n : ℕ) (y : Bool) (e : Entry) → bucket_of w.table c.state ≡ Some e →
      nat_lt (c.state.index + 1) c.state.capacity ≡ true →
      Row w c WalkAt (Read n y) HoldsUnasked
      (record c.state { phase = WalkAt; index = c.state.index + 1 })
      (c.list ++ e.value ∷ []) w.table None

-- how a call begins: its event, its number, the value of an insert, its first phase and its hash
pub data Opens : Event → ℕ → Option ℕ → Phase → ℕ → Type 0 where
  opens_insert : (n v h : ℕ) → Opens (Insert n v h) n (Some v) WantShared h
  opens_lookup : (n h : ℕ) → Opens (Lookup n h) n None LookLoad h
  opens_len : (n : ℕ) → Opens (Len n) n None LenLoad 0
  opens_walk : (n : ℕ) → Opens (Walk n) n None WalkLoad 0

-- the value of an insert is used by no call
abbrev pub IsNewValue : List Call → Option ℕ → Type 0
IsNewValue calls None = Unit {0}
IsNewValue calls (Some v) = is_used_value v calls ≡ false

-- the call that a row leaves
abbrev pub left : Call → CallState → List ℕ → Call
left c s list = record c { list = list; state = s }

-- What a taken event does, the world after it, and the reply that it gives.
pub data Takes (w : World) (x : Event) : Act → World → Option Finished → Type 0 where
  -- a call begins, whose number and value are unused
  begins : (n : ℕ) (v : Option ℕ) (p : Phase) (h : ℕ) → in_range x ≡ true → Opens x n v p h →
      is_used n w.calls ≡ false → IsNewValue w.calls v →
      Takes w x (Begins (starts n v p h))
      (record w { calls = w.calls ++ starts n v p h ∷ [] }) None
  -- a call takes a row
  goes : (c : Call) (p : Phase) (a : Answer) (s : CallState) (list : List ℕ) (t : Table)
      (o : Option Reply) →
      in_range x ≡ true → call_numbered (number_of x) w.calls ≡ Some c → c.state.phase ≡ p →
      Row w c p x a s list t o →
      Takes w x (Goes c a) (record { table = t; calls = replaced (left c s list) w.calls })
      (finished_call c.number o)

-- One event: what the table of events says, and where it says nothing the world stays as it was.
pub data Step (w : World) (x : Event) : Option Act → World → Option Finished → Type 0 where
  moves : (a : Act) (v : World) (r : Option Finished) → Takes w x a v r → Step w x (Some a) v r
  stays : ((a : Act) (v : World) (r : Option Finished) → Takes w x a v r → ⊥) →
      Step w x None w None

-- this is what the event does
pub record IsTheStep (w : World) (x : Event) (a : Act) (v : World)
    (r : Option Finished) : Type 0 where
  pub does : acts w x ≡ Some a
  pub leads : happens w x ≡ v
  pub tells : finishes w x ≡ r

-- whatever the table of events says is what happens
abbrev pub OnlyStep : World → Event → Act → World → Option Finished → Type 0
OnlyStep w x a v r = Takes w x a v r → IsTheStep w x a v r

-- the lock is taken or let go
abbrev pub moves_lock : Answer → Bool
moves_lock Taken = true
moves_lock Released = true
moves_lock (ReleasedAfterFailure _) = true
moves_lock _ = false

-- a call in one phase holds the lock as it does in another
pub record HoldsAsBefore (p q : Phase) : Type 0 where
  pub shared : holds_shared q ≡ holds_shared p
  pub owned : holds_owned q ≡ holds_owned p

-- who holds the lock changes only where it is taken or let go
abbrev pub LockStays : World → Call → Phase → Event → Answer → CallState → List ℕ → Table →
    Option Reply → Type 0
LockStays w c p x a s list t o =
    Row w c p x a s list t o → moves_lock a ≡ false → HoldsAsBefore p s.phase
