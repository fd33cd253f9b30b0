-- The calls: where each stands, and where an answer takes it.
use Rattle.std.specs.Prelude.{ℕ, ◌+◌, ◌/◌, ◌%◌, ◌==◌, ◌&&◌, ◌||◌, nat_lt, if◌then◌else◌, Bool}
use Rattle.std.specs.Prelude.{true, false, Option, Some, None, List, [], ◌∷◌}
use Rattle.std.specs.List.{find, list_any}
use Rattle.std.specs.Option.{option_map}
use Rattle.table_core.specs.Phases.{Shares, Owns, about}
use Rattle.table_core.specs.declared.call.Phase.{Phase}
use Rattle.table_core.specs.declared.call.Phase.TheVariants.{WantShared, Shared, Probe, AtEmpty}
use Rattle.table_core.specs.declared.call.Phase.TheVariants.{Placed, LeaveOk, LeaveGrow}
use Rattle.table_core.specs.declared.call.Phase.TheVariants.{LeaveRefused, AskSize, WantOwned}
use Rattle.table_core.specs.declared.call.Phase.TheVariants.{Owned, Building, LeaveOwned}
use Rattle.table_core.specs.declared.call.Phase.TheVariants.{LeaveFailed, LookLoad, LookProbe}
use Rattle.table_core.specs.declared.call.Phase.TheVariants.{LenLoad, LenSize, WalkLoad, WalkAt}
use Rattle.table_core.specs.declared.call.Phase.TheVariants.{Done}
use Rattle.table_core.specs.declared.call.Outcome.{Outcome}
use Rattle.table_core.specs.declared.call.Outcome.TheVariants.{Pending, New, Existing}
use Rattle.table_core.specs.declared.call.Answer.{Answer}
use Rattle.table_core.specs.declared.call.Answer.TheVariants.{Taken, Released}
use Rattle.table_core.specs.declared.call.Answer.TheVariants.{ReleasedAfterFailure, NoGeneration}
use Rattle.table_core.specs.declared.call.Answer.TheVariants.{Loaded, Empty, Holds, HoldsUnasked}
use Rattle.table_core.specs.declared.call.Answer.TheVariants.{Won, MemoryRefused, Counted, Sized}
use Rattle.table_core.specs.declared.call.Answer.TheVariants.{Begun, Unwanted, Failed, Copied}
use Rattle.table_core.specs.declared.call.Answer.TheVariants.{Shown}
use Rattle.table_core.specs.declared.call.CallState.{CallState}

-- a call: its number, the value of an insert, the list so far of a walk, and its state
pub record Call : Type 0 where
  pub number : ℕ
  pub value : Option ℕ
  pub list : List ℕ
  pub state : CallState

-- the state of a call that starts in this phase, with this hash
abbrev pub starting : Phase → ℕ → CallState
starting phase hash =
    record {
      phase = phase;
      hash = hash;
      walked = None;
      capacity = 0;
      index = 0;
      seen = 0;
      outcome = Pending;
    }

-- the states in which an insert, a look-up, a length and a walk start

-- an insert starts by wanting the lock, shared
abbrev pub insert_start : ℕ → CallState
insert_start hash = starting WantShared hash

-- a look-up starts at its load
abbrev pub lookup_start : ℕ → CallState
lookup_start hash = starting LookLoad hash

-- a length starts at its load
abbrev pub length_start : CallState
length_start = starting LenLoad 0

-- a walk starts at its load
abbrev pub walk_start : CallState
walk_start = starting WalkLoad 0

-- a new call in this state
abbrev pub new_call : ℕ → Option ℕ → CallState → Call
new_call n value state = record { number = n; value = value; list = []; state = state }

-- a call that starts in this phase
abbrev pub starts : ℕ → Option ℕ → Phase → ℕ → Call
starts n value phase hash = new_call n value (starting phase hash)

-- whether a call has this number
abbrev pub is_used : ℕ → List Call → Bool
is_used n calls = list_any (λ c. c.number == n) calls

-- whether this is the value of an insert
abbrev pub is_value : ℕ → Option ℕ → Bool
is_value v None = false
is_value v (Some u) = u == v

-- whether an insert has this value
abbrev pub is_used_value : ℕ → List Call → Bool
is_used_value v calls = list_any (λ c. is_value v c.value) calls

-- the call of this number
abbrev pub call_numbered : ℕ → List Call → Option Call
call_numbered n calls = find (λ c. c.number == n) calls

-- where the call of this number stands
abbrev pub state_of : ℕ → List Call → Option CallState
state_of n calls = option_map (λ c. c.state) (call_numbered n calls)

-- the calls, with this one in the place of the one of its number
abbrev pub replaced : Call → List Call → List Call
replaced d [] = []
replaced d (c ∷ calls) = if c.number == d.number then d ∷ calls else c ∷ replaced d calls

-- whether a call has ended
abbrev pub is_done : Phase → Bool
is_done Done = true
is_done _ = false

-- a call that is there, and has ended
abbrev pub is_finished : Option Call → Bool
is_finished None = false
is_finished (Some c) = is_done c.state.phase

-- Locks: who holds the lock is read off the phases

-- whether a call in this phase holds the lock shared
abbrev pub holds_shared : Phase → Bool
holds_shared p = elim (about p).lock [ Shares ↦ true | _ ↦ false ]

-- whether a call in this phase holds the lock exclusively
abbrev pub holds_owned : Phase → Bool
holds_owned p = elim (about p).lock [ Owns ↦ true | _ ↦ false ]

-- one of these calls holds the lock exclusively
abbrev pub is_owned : List Call → Bool
is_owned calls = list_any (λ c. holds_owned c.state.phase) calls

-- one of these calls holds the lock
abbrev pub is_locked : List Call → Bool
is_locked calls = list_any (λ c. holds_shared c.state.phase || holds_owned c.state.phase) calls

-- Where an answer takes a call

-- in another phase
abbrev pub to : Phase → CallState → CallState
to p s = record s { phase = p }

-- at the first bucket of a probe
abbrev pub probes : Phase → CallState → ℕ → ℕ → CallState
probes p s generation capacity =
    record s {
      phase = p;
      walked = Some generation;
      capacity = capacity;
      index = s.hash % capacity;
      seen = 0;
    }

-- one set bucket further, or in this other phase once all were seen
abbrev pub passes : Phase → Phase → CallState → CallState
passes on turned s =
    if nat_lt (s.seen + 1) s.capacity
    then record s { phase = on; index = (s.index + 1) % s.capacity; seen = s.seen + 1 }
    else record s { phase = turned; seen = s.seen + 1 }

-- it accepts the entry in its bucket
abbrev pub finds_entry : Phase → CallState → CallState
finds_entry p s = record s { phase = p; outcome = Existing s.index }

-- at a set bucket: it accepts the entry, and goes to the phase `found`, or passes it
abbrev pub at_set_bucket : Phase → Phase → Phase → CallState → Bool → CallState
at_set_bucket found on turned s true = finds_entry found s
at_set_bucket found on turned s false = passes on turned s

-- an insert at a set bucket
abbrev pub insert_meets : CallState → Bool → CallState
insert_meets s accepted = at_set_bucket LeaveOk Probe LeaveGrow s accepted

-- a look-up at a set bucket
abbrev pub lookup_meets : CallState → Bool → CallState
lookup_meets s accepted = at_set_bucket Done LookProbe Done s accepted

-- a walk goes on to the next bucket, until there is none
abbrev pub walk_passes : CallState → CallState
walk_passes s =
    if nat_lt (s.index + 1) s.capacity
    then record s { phase = WalkAt; index = s.index + 1 }
    else record s { phase = Done; index = s.index + 1 }

-- whether a call has no outcome yet
abbrev pub is_pending : Outcome → Bool
is_pending Pending = true
is_pending _ = false

-- growth is over: a call without an outcome starts over
abbrev pub growth_ends : CallState → CallState
growth_ends s = if is_pending s.outcome then to WantShared s else to Done s

-- growth has failed: a call without an outcome gives up, unless there is another generation by now
abbrev pub growth_fails : CallState → Bool → CallState
growth_fails s still_current =
    if is_pending s.outcome && (if still_current then false else true) then to WantShared s
    else to Done s

-- the state after an answer, in the phases' order; an answer that has no row changes nothing
abbrev pub decided : Phase → CallState → Answer → CallState
decided WantShared s Taken = to Shared s
decided Shared s NoGeneration = record s { phase = LeaveGrow; walked = None }
decided Shared s (Loaded g n) = probes Probe s g n
decided Probe s Empty = to AtEmpty s
decided Probe s (Holds accepted) = insert_meets s accepted
decided Probe s HoldsUnasked = insert_meets s false
decided AtEmpty s MemoryRefused = to LeaveRefused s
decided AtEmpty s Won = to Placed s
decided AtEmpty s (Holds accepted) = insert_meets s accepted
decided AtEmpty s HoldsUnasked = insert_meets s false
decided Placed s Counted = record s { phase = LeaveOk; outcome = New s.index }
decided LeaveOk s Released = to AskSize s
decided LeaveGrow s Released = to WantOwned s
decided LeaveRefused s Released = to Done s
decided AskSize s (Sized k) = if nat_lt k (s.capacity / 2) then to Done s else to WantOwned s
decided WantOwned s Taken = to Owned s
decided Owned s Begun = to Building s
decided Owned s Unwanted = to LeaveOwned s
decided Owned s Failed = to LeaveFailed s
decided Building s Copied = to Building s
decided Building s Shown = to LeaveOwned s
decided LeaveOwned s Released = growth_ends s
decided LeaveFailed s (ReleasedAfterFailure still_current) = growth_fails s still_current
decided LookLoad s NoGeneration = to Done s
decided LookLoad s (Loaded g n) = probes LookProbe s g n
decided LookProbe s Empty = to Done s
decided LookProbe s (Holds accepted) = lookup_meets s accepted
decided LookProbe s HoldsUnasked = lookup_meets s false
decided LenLoad s NoGeneration = to Done s
decided LenLoad s (Loaded g n) = record s { phase = LenSize; walked = Some g; capacity = n }
decided LenSize s (Sized k) = to Done s
decided WalkLoad s NoGeneration = to Done s
decided WalkLoad s (Loaded g n) =
    record s { phase = WalkAt; walked = Some g; capacity = n; index = 0 }
decided WalkAt s Empty = walk_passes s
decided WalkAt s HoldsUnasked = walk_passes s
decided _ s _ = s

-- Answers that fit

-- a call that stands at a bucket of its generation
abbrev pub stands_at_bucket : CallState → Bool
stands_at_bucket s = nat_lt s.index s.capacity && nat_lt s.seen s.capacity

-- whether an answer has a row in a phase, with numbers that can be
abbrev pub fits : Phase → CallState → Answer → Bool
fits WantShared s Taken = true
fits Shared s NoGeneration = true
fits Shared s (Loaded g n) = nat_lt 0 n
fits Probe s Empty = stands_at_bucket s
fits Probe s (Holds _) = stands_at_bucket s
fits Probe s HoldsUnasked = stands_at_bucket s
fits AtEmpty s MemoryRefused = stands_at_bucket s
fits AtEmpty s Won = stands_at_bucket s
fits AtEmpty s (Holds _) = stands_at_bucket s
fits AtEmpty s HoldsUnasked = stands_at_bucket s
fits Placed s Counted = stands_at_bucket s
fits LeaveOk s Released = true
fits LeaveGrow s Released = true
fits LeaveRefused s Released = true
fits AskSize s (Sized k) = nat_lt 0 s.capacity
fits WantOwned s Taken = true
fits Owned s Begun = true
fits Owned s Unwanted = true
fits Owned s Failed = true
fits Building s Copied = true
fits Building s Shown = true
fits LeaveOwned s Released = true
fits LeaveFailed s (ReleasedAfterFailure _) = true
fits LookLoad s NoGeneration = true
fits LookLoad s (Loaded g n) = nat_lt 0 n
fits LookProbe s Empty = stands_at_bucket s
fits LookProbe s (Holds _) = stands_at_bucket s
fits LookProbe s HoldsUnasked = stands_at_bucket s
fits LenLoad s NoGeneration = true
fits LenLoad s (Loaded g n) = nat_lt 0 n
fits LenSize s (Sized k) = nat_lt 0 s.capacity
fits WalkLoad s NoGeneration = true
fits WalkLoad s (Loaded g n) = nat_lt 0 n
fits WalkAt s Empty = nat_lt s.index s.capacity
fits WalkAt s HoldsUnasked = nat_lt s.index s.capacity
fits _ _ _ = false

-- the state after an answer; one that doesn't fit changes nothing
abbrev pub decide : CallState → Answer → CallState
decide s a = if fits s.phase s a then decided s.phase s a else s
