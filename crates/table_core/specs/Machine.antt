-- The machine: what an event finds, what it changes, and what a call is told.
use Rattle.std.specs.Prelude.{◌≡◌, ℕ, ◌/◌, ◌^◌, ◌==◌, ◌&&◌, ◌||◌, nat_lt, if◌then◌else◌, Bool, true}
use Rattle.std.specs.Prelude.{false, not, Option, Some, None, List, [], ◌∷◌, ◌++◌, length, ◌-◌}
use Rattle.table_core.specs.Replies.{Reply, ReplyPlaced, ReplyFound, ReplyRefused, ReplySome}
use Rattle.table_core.specs.Replies.{ReplyNone, ReplyLen, ReplyWalk, Finished}
use Rattle.table_core.specs.Generations.{Gen, Table, fresh, fill, count, current, gen_of}
use Rattle.table_core.specs.Generations.{bucket_in, is_current, change, next_capacity}
use Rattle.table_core.specs.Generations.{next_copied, copy_on, built}
use Rattle.table_terms.specs.Hashes.{bits_of}
use Rattle.table_core.specs.Calls.{Call, starts, is_used, is_used_value, call_numbered, replaced}
use Rattle.table_core.specs.Calls.{is_owned, is_locked, decided, is_pending}
use Rattle.table_core.specs.declared.event.Event.{Event}
use Rattle.table_core.specs.declared.event.Event.TheVariants.{Insert, Lookup, Len, Walk, Share}
use Rattle.table_core.specs.declared.event.Event.TheVariants.{Own, Free, Load, Read, Put, Add}
use Rattle.table_core.specs.declared.event.Event.TheVariants.{Size, Check, Copy, Show}
use Rattle.table_core.specs.declared.generation.Entry.{Entry}
use Rattle.table_core.specs.declared.call.CallState.{CallState}
use Rattle.table_core.specs.declared.call.Phase.{Phase}
use Rattle.table_core.specs.declared.call.Phase.TheVariants.{WantShared, Shared, Probe, AtEmpty}
use Rattle.table_core.specs.declared.call.Phase.TheVariants.{Placed, LeaveOk, LeaveGrow}
use Rattle.table_core.specs.declared.call.Phase.TheVariants.{LeaveRefused, AskSize, WantOwned}
use Rattle.table_core.specs.declared.call.Phase.TheVariants.{Owned, Building, LeaveOwned}
use Rattle.table_core.specs.declared.call.Phase.TheVariants.{LeaveFailed, LookLoad, LookProbe}
use Rattle.table_core.specs.declared.call.Phase.TheVariants.{LenLoad, LenSize, WalkLoad, WalkAt}
use Rattle.table_core.specs.declared.call.Phase.TheVariants.{Done}
use Rattle.table_core.specs.declared.call.Outcome.{Outcome}
use Rattle.table_core.specs.declared.call.Outcome.TheVariants.{New, Existing}
use Rattle.table_core.specs.declared.call.Answer.{Answer}
use Rattle.table_core.specs.declared.call.Answer.TheVariants.{Taken, Released}
use Rattle.table_core.specs.declared.call.Answer.TheVariants.{ReleasedAfterFailure, NoGeneration}
use Rattle.table_core.specs.declared.call.Answer.TheVariants.{Loaded, Empty, Holds, HoldsUnasked}
use Rattle.table_core.specs.declared.call.Answer.TheVariants.{Won, MemoryRefused, Counted, Sized}
use Rattle.table_core.specs.declared.call.Answer.TheVariants.{Begun, Unwanted, Failed, Copied}
use Rattle.table_core.specs.declared.call.Answer.TheVariants.{Shown}

-- a table and its calls
pub record World : Type 0 where
  pub table : Table
  pub calls : List Call

-- no generation and no call
abbrev pub empty : ℕ → World
empty first = record { table = record { first = first; gens = []; building = None }; calls = [] }

-- What an event finds

-- the lock, unless it is held
abbrev pub takes_unless : Bool → Option Answer
takes_unless false = Some Taken
takes_unless true = None

-- what a load finds, of so many generations
abbrev pub loaded : ℕ → Option Gen → Answer
loaded n None = NoGeneration
loaded n (Some g) = Loaded (n - 1) g.capacity

-- the current generation
abbrev pub loads : Table → Answer
loads t = loaded (length t.gens) (current t)

-- the generation that a call walks
abbrev pub walked_gen : Table → CallState → Option Gen
walked_gen t s = gen_of t.gens s.walked

-- the bucket at which a call stands
abbrev pub bucket_of : Table → CallState → Option Entry
bucket_of t s = bucket_in (walked_gen t s) s.index

-- a set bucket shows the closure's answer where its bits are those of the hash; else nothing is
-- asked
abbrev pub holds : Entry → ℕ → Bool → Answer
holds e hash accepted = if e.bits == bits_of hash then Holds accepted else HoldsUnasked

-- what a read finds in a bucket
abbrev pub read : Option Entry → ℕ → Bool → Answer
read None hash accepted = Empty
read (Some e) hash accepted = holds e hash accepted

-- a walk asks nothing
abbrev pub read_unasked : Option Entry → Answer
read_unasked None = Empty
read_unasked (Some e) = HoldsUnasked

-- what an exchange finds in a bucket
abbrev pub exchanged : Option Entry → ℕ → Bool → Answer
exchanged None hash accepted = Won
exchanged (Some e) hash accepted = holds e hash accepted

-- the size of a generation
abbrev pub sized : Option Gen → Option Answer
sized None = None
sized (Some g) = Some (Sized g.size)

-- growth is wanted where there is no generation, or half of the current one is taken
abbrev pub checked : Option Gen → Bool → Answer
checked None granted = if granted then Begun else Failed
checked (Some g) granted =
    if nat_lt g.size (g.capacity / 2) then Unwanted
    else (if granted && not (g.capacity == 2 ^ 63) then Begun else Failed)

-- one more entry is copied, if there is one left
abbrev pub finds_copy : Option Entry → Option Answer
finds_copy (Some e) = Some Copied
finds_copy None = None

-- the generation is shown, if no entry is left
abbrev pub finds_show : Option Entry → Option Answer
finds_show None = Some Shown
finds_show (Some e) = None

-- after a failed growth the lock's release says whether the walked generation is the current one,
-- or there is none still
abbrev pub released_after_failure : Table → CallState → Answer
released_after_failure t s = ReleasedAfterFailure (is_current t.gens s.walked)

-- what an event finds in each phase; None where it has no row, or isn't enabled
abbrev pub finds_in : Phase → World → CallState → Event → Option Answer
finds_in WantShared w s (Share _) = takes_unless (is_owned w.calls)
finds_in Shared w s (Load _) = Some (loads w.table)
finds_in Probe w s (Read _ accepted) = Some (read (bucket_of w.table s) s.hash accepted)
finds_in AtEmpty w s (Put _ accepted granted) =
    Some (if granted then exchanged (bucket_of w.table s) s.hash accepted else MemoryRefused)
finds_in Placed w s (Add _) = Some Counted
finds_in LeaveOk w s (Free _) = Some Released
finds_in LeaveGrow w s (Free _) = Some Released
finds_in LeaveRefused w s (Free _) = Some Released
finds_in AskSize w s (Size _) = sized (walked_gen w.table s)
finds_in WantOwned w s (Own _) = takes_unless (is_locked w.calls)
finds_in Owned w s (Check _ granted) = Some (checked (current w.table) granted)
finds_in Building w s (Copy _ hash) = finds_copy (next_copied w.table)
finds_in Building w s (Show _) = finds_show (next_copied w.table)
finds_in LeaveOwned w s (Free _) = Some Released
finds_in LeaveFailed w s (Free _) = Some (released_after_failure w.table s)
finds_in LookLoad w s (Load _) = Some (loads w.table)
finds_in LookProbe w s (Read _ accepted) = Some (read (bucket_of w.table s) s.hash accepted)
finds_in LenLoad w s (Load _) = Some (loads w.table)
finds_in LenSize w s (Size _) = sized (walked_gen w.table s)
finds_in WalkLoad w s (Load _) = Some (loads w.table)
finds_in WalkAt w s (Read _ _) = Some (read_unasked (bucket_of w.table s))
finds_in _ w s _ = None

-- what an event of a call finds in its phase
abbrev pub finds : World → CallState → Event → Option Answer
finds w s x = finds_in s.phase w s x

-- What it changes in the table

-- the value of a call in the bucket at which it stands
abbrev pub place : Table → CallState → Option ℕ → Table
place t s None = t
place t s (Some v) = record t {
  gens = change t.gens s.walked
      (λ g. fill g (record { index = s.index; value = v; bits = bits_of s.hash }));
}

-- the size of the walked generation is one more
abbrev pub add_one : Table → CallState → Table
add_one t s = record t { gens = change t.gens s.walked count }

-- an empty generation, of the first capacity or of twice the current one
abbrev pub begin_growth : Table → Table
begin_growth t = record t {
  building = Some
      (record { gen = fresh (next_capacity t.first (current t)); copied = 0 });
}

-- an entry is copied, if there is one
abbrev pub copy_next : Table → Option Entry → ℕ → Table
copy_next t None hash = t
copy_next t (Some e) hash = record t { building = copy_on t.building e hash }

-- the generation that was built is the current one
abbrev pub show_built : Table → Table
show_built t = record t { gens = t.gens ++ built t.building; building = None }

-- the table after a call has found this at its event
abbrev pub changed : Table → Call → Event → Answer → Table
changed t c (Put _ _ _) Won = place t c.state c.value
changed t c (Add _) Counted = add_one t c.state
changed t c (Check _ _) Begun = begin_growth t
changed t c (Copy _ hash) Copied = copy_next t (next_copied t) hash
changed t c (Show _) Shown = show_built t
changed t c _ _ = t

-- What a call is told

-- the call's own value back
abbrev pub refused : Option ℕ → Option Reply
refused None = None
refused (Some v) = Some (ReplyRefused v)

-- an entry and the value that comes back
abbrev pub found_entry : Option Entry → ℕ → Option Reply
found_entry None v = None
found_entry (Some e) v = Some (ReplyFound e.value v)

-- the reply that an outcome gives
abbrev pub reply_of_outcome : Outcome → Table → CallState → Option ℕ → Option Reply
reply_of_outcome (New _) t s (Some v) = Some (ReplyPlaced v)
reply_of_outcome (Existing i) t s (Some v) = found_entry (bucket_in (walked_gen t s) i) v
reply_of_outcome _ t s _ = None

-- the reply by the outcome; none without an outcome
abbrev pub by_outcome : Table → Call → Option Reply
by_outcome t c = reply_of_outcome c.state.outcome t c.state c.value

-- the reply after a failed growth: without an outcome the value goes back
abbrev pub by_failure : Table → Call → Option Reply
by_failure t c = if is_pending c.state.outcome then refused c.value else by_outcome t c

-- the entry that a look-up accepts
abbrev pub shown_entry : Option Entry → Option Reply
shown_entry None = None
shown_entry (Some e) = Some (ReplySome e.value)

-- the entry of its bucket, or none
abbrev pub lookup_reply : Table → CallState → Bool → Option Reply
lookup_reply t s true = shown_entry (bucket_of t s)
lookup_reply t s false = Some ReplyNone

-- a list with an entry's value behind it
abbrev pub with_entry : List ℕ → Option Entry → List ℕ
with_entry list None = list
with_entry list (Some e) = list ++ e.value ∷ []

-- the entry that an answer shows to a walk
abbrev pub walked_entry : Table → CallState → Answer → Option Entry
walked_entry t s HoldsUnasked = bucket_of t s
walked_entry t s _ = None

-- the list of a walk after an answer
abbrev pub walked_list : Table → Call → Answer → List ℕ
walked_list t c a = with_entry c.list (walked_entry t c.state a)

-- what a call is told that ends in this phase by this answer
abbrev pub last_reply : Phase → Table → Call → Answer → Option Reply
last_reply LeaveRefused t c a = refused c.value
last_reply AskSize t c a = by_outcome t c
last_reply LeaveOwned t c a = by_outcome t c
last_reply LeaveFailed t c a = by_failure t c
last_reply LookLoad t c a = Some ReplyNone
last_reply LookProbe t c (Holds accepted) = lookup_reply t c.state accepted
last_reply LookProbe t c _ = Some ReplyNone
last_reply LenLoad t c a = Some (ReplyLen 0)
last_reply LenSize t c (Sized k) = Some (ReplyLen k)
last_reply WalkLoad t c a = Some (ReplyWalk [])
last_reply WalkAt t c a = Some (ReplyWalk (walked_list t c a))
last_reply _ t c _ = None

-- only a call that ends is told anything
abbrev pub reply_at_end : Phase → Option Reply → Option Reply
reply_at_end Done o = o
reply_at_end _ o = None

-- what a call is told by an answer in this phase
abbrev pub reply_in : Phase → Table → Call → Answer → Option Reply
reply_in p t c a = reply_at_end (decided p c.state a).phase (last_reply p t c a)

-- what a call is told by an answer
abbrev pub reply : Table → Call → Answer → Option Reply
reply t c a = reply_in c.state.phase t c a

-- the list that a walk keeps whose next phase is this: its reply takes it
abbrev pub kept_list : Phase → List ℕ → List ℕ
kept_list Done list = []
kept_list _ list = list

-- the list of a call after an answer in this phase
abbrev pub list_in : Phase → Table → Call → Answer → List ℕ
list_in WalkAt t c a = kept_list (decided WalkAt c.state a).phase (walked_list t c a)
list_in _ t c a = c.list

-- the call after an answer
abbrev pub call_after : Table → Call → Answer → Call
call_after t c a =
    record c { list = list_in c.state.phase t c a; state = decided c.state.phase c.state a }

-- One event

-- the call that an event is of
abbrev pub number_of : Event → ℕ
number_of (Insert c v h) = c
number_of (Lookup c h) = c
number_of (Len c) = c
number_of (Walk c) = c
number_of (Share c) = c
number_of (Own c) = c
number_of (Free c) = c
number_of (Load c) = c
number_of (Read c _) = c
number_of (Put c _ _) = c
number_of (Add c) = c
number_of (Size c) = c
number_of (Check c _) = c
number_of (Copy c _) = c
number_of (Show c) = c

-- all numbers of an event are below 2 ^ 64
abbrev pub in_range : Event → Bool
in_range (Insert c v h) = nat_lt c (2 ^ 64) && nat_lt v (2 ^ 64) && nat_lt h (2 ^ 64)
in_range (Lookup c h) = nat_lt c (2 ^ 64) && nat_lt h (2 ^ 64)
in_range (Copy c h) = nat_lt c (2 ^ 64) && nat_lt h (2 ^ 64)
in_range x = nat_lt (number_of x) (2 ^ 64)

-- what a taken event did
pub data Act : Type 0 where
  -- this call has begun
  Begins : (call : Call) → Act
  -- this call, as it was, has found this
  Goes : (call : Call) → (answer : Answer) → Act

-- a call begins, unless it may not
abbrev pub begins_unless : Bool → Call → Option Act
begins_unless true c = None
begins_unless false c = Some (Begins c)

-- a call goes by what its event finds, if it finds anything
abbrev pub goes_by : Call → Option Answer → Option Act
goes_by c None = None
goes_by c (Some a) = Some (Goes c a)

-- what an event does to the call that it is of
abbrev pub call_acts : World → Option Call → Event → Option Act
call_acts w None x = None
call_acts w (Some c) x = goes_by c (finds w c.state x)

-- what an event whose numbers are in range does, if it is taken
abbrev pub act_of : World → Event → Option Act
act_of w (Insert n v h) =
    begins_unless (is_used n w.calls || is_used_value v w.calls) (starts n (Some v) WantShared h)
act_of w (Lookup n h) = begins_unless (is_used n w.calls) (starts n None LookLoad h)
act_of w (Len n) = begins_unless (is_used n w.calls) (starts n None LenLoad 0)
act_of w (Walk n) = begins_unless (is_used n w.calls) (starts n None WalkLoad 0)
act_of w x = call_acts w (call_numbered (number_of x) w.calls) x

-- what an event does, if it is taken
abbrev pub acts : World → Event → Option Act
acts w x = if in_range x then act_of w x else None

-- a call in this phase that finds this takes memory: a value is placed, a generation begun, an
-- entry copied, a generation shown, or an entry put into a walk's list
abbrev pub takes_memory : Answer → Phase → Bool
takes_memory Won p = true
takes_memory Begun p = true
takes_memory Copied p = true
takes_memory Shown p = true
takes_memory HoldsUnasked WalkAt = true
takes_memory _ p = false

-- whether what a call finds, if anything, takes memory
abbrev pub finding_takes_memory : Phase → Option Answer → Bool
finding_takes_memory p None = false
finding_takes_memory p (Some a) = takes_memory a p

-- whether what an event did takes memory: a call that begins does
abbrev pub act_takes_memory : Option Act → Bool
act_takes_memory None = false
act_takes_memory (Some (Begins c)) = true
act_takes_memory (Some (Goes c a)) = takes_memory a c.state.phase

-- this event asks for memory: by it a call begins, or finds what takes memory
abbrev pub AsksMemory : World → Event → Type 0
AsksMemory w x = act_takes_memory (acts w x) ≡ true

-- the world after what an event did
abbrev pub after_act : World → Event → Option Act → World
after_act w x None = w
after_act w x (Some (Begins c)) = record w { calls = w.calls ++ c ∷ [] }
after_act w x (Some (Goes c a)) =
    record { table = changed w.table c x a; calls = replaced (call_after w.table c a) w.calls }

-- the world after an event
abbrev pub happens : World → Event → World
happens w x = after_act w x (acts w x)

-- the call of this number with its reply, if it has one
abbrev pub finished_call : ℕ → Option Reply → Option Finished
finished_call n None = None
finished_call n (Some t) = Some (record { call = n; reply = t })

-- the call that is finished by what an event did
abbrev pub finished_by : World → Option Act → Option Finished
finished_by w (Some (Goes c a)) = finished_call c.number (reply w.table c a)
finished_by w _ = None

-- the reply that an event gives
abbrev pub finishes : World → Event → Option Finished
finishes w x = finished_by w (acts w x)

-- the world after some events
abbrev pub run : World → List Event → World
run w [] = w
run w (x ∷ xs) = run (happens w x) xs

-- the world after a schedule
abbrev pub after : ℕ → List Event → World
after first s = run (empty first) s
