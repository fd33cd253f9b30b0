-- The machine takes exactly the rows of the table of events.
use Rattle.std.proofs.Common.{eqb-true, ℕ, ◌≡◌, ◌+◌, ◌-◌, ◌/◌, ◌^◌, ◌++◌, [], ◌∷◌, Bool, true, false, refl, Option, Some, None, length, subst}
use Rattle.std.specs.Prelude.{◌==◌, ◌&&◌, ◌||◌, nat_lt, if◌then◌else◌, not}
use Rattle.table_core.specs.Replies.{ReplyNone, ReplyWalk}
use Rattle.table_core.specs.Generations.{Gen, current, is_current, next_copied}
use Rattle.table_terms.specs.Hashes.{bits_of}
use Rattle.table_core.specs.Calls.{Call, starts, is_used, is_used_value, call_numbered, is_owned, is_locked, to, is_pending, decided}
use Rattle.table_core.specs.Machine.{World, takes_unless, loaded, walked_gen, bucket_of, read, read_unasked, exchanged, sized, checked, finds_in, finds, changed, refused, by_outcome, reply_at_end, reply_in, kept_list, list_in, number_of, in_range, Act, begins_unless, goes_by, act_of, acts, after_act, finished_by}
use Rattle.table_core.specs.Machine.{finds_copy, finds_show, call_acts}
use Rattle.table_core.specs.Steps.{is_declined, is_unasked, next_bucket, turned, Row, shares, loads_none, loads, reads_empty, meets, turns, turns_unasked, goes_on, goes_on_unasked, memory_refused, puts, loses_meets, loses_turns, loses_turns_unasked, loses_goes_on, loses_goes_on_unasked, adds, leaves_ok, leaves_grow, leaves_refused, large, small, owns, begins_first, fails_first, unwanted, fails_largest, fails_refused, begins_next, copies, shows, ends, starts_over, ends_failed, gives_up, tries_again, looks_none, looks, look_empty, look_meets, look_turns, look_turns_unasked, look_goes_on, look_goes_on_unasked, len_none, len_loads, len_size, walk_none, walk_loads, walk_skips_last, walk_takes_last, walk_skips, walk_takes, Opens, opens_insert, opens_lookup, opens_len, opens_walk, IsNewValue, Takes, begins, goes}
use Rattle.table_core.specs.declared.event.Event.{Event}
use Rattle.table_core.specs.declared.event.Event.TheVariants.{Insert, Lookup, Len, Walk, Share, Own, Free, Load, Read, Put, Add, Size, Check, Copy, Show}
use Rattle.table_core.specs.declared.generation.Entry.{Entry}
use Rattle.table_core.specs.declared.call.CallState.{CallState}
use Rattle.table_core.specs.declared.call.Phase.{Phase}
use Rattle.table_core.specs.declared.call.Phase.TheVariants.{WantShared, Shared, Probe, AtEmpty, Placed, LeaveOk, LeaveGrow, LeaveRefused, AskSize, WantOwned, Owned, Building, LeaveOwned, LeaveFailed, LookLoad, LookProbe, LenLoad, LenSize, WalkLoad, WalkAt, Done}
use Rattle.table_core.specs.declared.call.Answer.{Answer}
use Rattle.table_core.specs.declared.call.Answer.TheVariants.{Taken, NoGeneration, Loaded, Released, ReleasedAfterFailure, Empty, Holds, HoldsUnasked, MemoryRefused, Sized, Begun, Unwanted, Failed}
use Rattle.std.proofs.lemmas.Bool.{or_parts}

-- what a phase makes of an event and its answer is a row
abbrev Rows : World → Call → Phase → Event → Answer → Type 0
Rows w c p x a = Row w c p x a (decided p c.state a) (list_in p w.table c a) (changed w.table c x a) (reply_in p w.table c a)

pub along : (P : Answer → Type 0) (x a : Answer) → Some x ≡ Some a → P x → P a
along P x a h px = let e : x ≡ a = cc in subst P e px

-- what is taken unless something holds, by whether it does
pub by_taken : (P : Answer → Type 0) (b k : Bool) → k ≡ b → (k ≡ false → P Taken) → (a : Answer) → takes_unless b ≡ Some a → P a
by_taken P false k h takes a f = along P Taken a f (takes h)
by_taken P true k h takes a f = absurd (cc)

-- what a load finds, by whether there is a current generation
pub by_current : (w : World) (P : Answer → Type 0) (o : Option Gen) → current w.table ≡ o → (current w.table ≡ None → P NoGeneration) → ((g : Gen) → current w.table ≡ Some g → P (Loaded (length w.table.gens - 1) g.capacity)) → P (loaded (length w.table.gens) o)
by_current w P None h none some = none h
by_current w P (Some g) h none some = some g h

-- what a set bucket shows, by whether its bits agree and what the closure says
abbrev shown : Bool → Bool → Answer
shown agree y = if agree then Holds y else HoldsUnasked

pub pass_row : (w : World) (c : Call) (n : ℕ) (e : Entry) → bucket_of w.table c.state ≡ Some e → is_declined e c.state false ≡ true → (b : Bool) → nat_lt (c.state.seen + 1) c.state.capacity ≡ b → Row w c Probe (Read n false) (Holds false) (if b then next_bucket Probe c.state else turned LeaveGrow c.state) c.list w.table (reply_at_end (if b then next_bucket Probe c.state else turned LeaveGrow c.state).phase None)
pass_row w c n e h f true g = goes_on n false e h f g
pass_row w c n e h f false g = turns n false e h f g

pub pass_unasked_row : (w : World) (c : Call) (n : ℕ) (y : Bool) (e : Entry) → bucket_of w.table c.state ≡ Some e → is_unasked e c.state ≡ true → (b : Bool) → nat_lt (c.state.seen + 1) c.state.capacity ≡ b → Row w c Probe (Read n y) HoldsUnasked (if b then next_bucket Probe c.state else turned LeaveGrow c.state) c.list w.table (reply_at_end (if b then next_bucket Probe c.state else turned LeaveGrow c.state).phase None)
pass_unasked_row w c n y e h f true g = goes_on_unasked n y e h f g
pass_unasked_row w c n y e h f false g = turns_unasked n y e h f g

pub meet_row : (w : World) (c : Call) (n : ℕ) (y : Bool) (e : Entry) → bucket_of w.table c.state ≡ Some e → (b : Bool) → (e.bits == bits_of c.state.hash) ≡ b → Rows w c Probe (Read n y) (shown b y)
meet_row w c n true e h true f = meets n true e h (rw f refl)
meet_row w c n false e h true f = pass_row w c n e h (rw f refl) (nat_lt (c.state.seen + 1) c.state.capacity) refl
meet_row w c n y e h false f = pass_unasked_row w c n y e h (rw f refl) (nat_lt (c.state.seen + 1) c.state.capacity) refl

pub row_probe : (w : World) (c : Call) (n : ℕ) (y : Bool) (o : Option Entry) → bucket_of w.table c.state ≡ o → Rows w c Probe (Read n y) (read o c.state.hash y)
row_probe w c n y None h = reads_empty n y h
row_probe w c n y (Some e) h = meet_row w c n y e h (e.bits == bits_of c.state.hash) refl

pub lost_pass_row : (w : World) (c : Call) (n : ℕ) (e : Entry) → bucket_of w.table c.state ≡ Some e → is_declined e c.state false ≡ true → (b : Bool) → nat_lt (c.state.seen + 1) c.state.capacity ≡ b → Row w c AtEmpty (Put n false true) (Holds false) (if b then next_bucket Probe c.state else turned LeaveGrow c.state) c.list w.table (reply_at_end (if b then next_bucket Probe c.state else turned LeaveGrow c.state).phase None)
lost_pass_row w c n e h f true g = loses_goes_on n false e h f g
lost_pass_row w c n e h f false g = loses_turns n false e h f g

pub lost_pass_unasked_row : (w : World) (c : Call) (n : ℕ) (y : Bool) (e : Entry) → bucket_of w.table c.state ≡ Some e → is_unasked e c.state ≡ true → (b : Bool) → nat_lt (c.state.seen + 1) c.state.capacity ≡ b → Row w c AtEmpty (Put n y true) HoldsUnasked (if b then next_bucket Probe c.state else turned LeaveGrow c.state) c.list w.table (reply_at_end (if b then next_bucket Probe c.state else turned LeaveGrow c.state).phase None)
lost_pass_unasked_row w c n y e h f true g = loses_goes_on_unasked n y e h f g
lost_pass_unasked_row w c n y e h f false g = loses_turns_unasked n y e h f g

pub lost_meet_row : (w : World) (c : Call) (n : ℕ) (y : Bool) (e : Entry) → bucket_of w.table c.state ≡ Some e → (b : Bool) → (e.bits == bits_of c.state.hash) ≡ b → Rows w c AtEmpty (Put n y true) (shown b y)
lost_meet_row w c n true e h true f = loses_meets n true e h (rw f refl)
lost_meet_row w c n false e h true f = lost_pass_row w c n e h (rw f refl) (nat_lt (c.state.seen + 1) c.state.capacity) refl
lost_meet_row w c n y e h false f = lost_pass_unasked_row w c n y e h (rw f refl) (nat_lt (c.state.seen + 1) c.state.capacity) refl

pub row_exchange : (w : World) (c : Call) (n : ℕ) (y : Bool) (o : Option Entry) → bucket_of w.table c.state ≡ o → Rows w c AtEmpty (Put n y true) (exchanged o c.state.hash y)
row_exchange w c n y None h = puts n y h
row_exchange w c n y (Some e) h = lost_meet_row w c n y e h (e.bits == bits_of c.state.hash) refl

pub row_put : (w : World) (c : Call) (n : ℕ) (y m : Bool) → Rows w c AtEmpty (Put n y m) (if m then exchanged (bucket_of w.table c.state) c.state.hash y else MemoryRefused)
row_put w c n y true = row_exchange w c n y (bucket_of w.table c.state) refl
row_put w c n y false = memory_refused n y

pub look_pass_row : (w : World) (c : Call) (n : ℕ) (e : Entry) → bucket_of w.table c.state ≡ Some e → is_declined e c.state false ≡ true → (b : Bool) → nat_lt (c.state.seen + 1) c.state.capacity ≡ b → Row w c LookProbe (Read n false) (Holds false) (if b then next_bucket LookProbe c.state else turned Done c.state) c.list w.table (reply_at_end (if b then next_bucket LookProbe c.state else turned Done c.state).phase (Some ReplyNone))
look_pass_row w c n e h f true g = look_goes_on n false e h f g
look_pass_row w c n e h f false g = look_turns n false e h f g

pub look_pass_unasked_row : (w : World) (c : Call) (n : ℕ) (y : Bool) (e : Entry) → bucket_of w.table c.state ≡ Some e → is_unasked e c.state ≡ true → (b : Bool) → nat_lt (c.state.seen + 1) c.state.capacity ≡ b → Row w c LookProbe (Read n y) HoldsUnasked (if b then next_bucket LookProbe c.state else turned Done c.state) c.list w.table (reply_at_end (if b then next_bucket LookProbe c.state else turned Done c.state).phase (Some ReplyNone))
look_pass_unasked_row w c n y e h f true g = look_goes_on_unasked n y e h f g
look_pass_unasked_row w c n y e h f false g = look_turns_unasked n y e h f g

pub look_meet_row : (w : World) (c : Call) (n : ℕ) (y : Bool) (e : Entry) → bucket_of w.table c.state ≡ Some e → (b : Bool) → (e.bits == bits_of c.state.hash) ≡ b → Rows w c LookProbe (Read n y) (shown b y)
look_meet_row w c n true e h true f = rw h (look_meets n true e h (rw f refl))
look_meet_row w c n false e h true f = look_pass_row w c n e h (rw f refl) (nat_lt (c.state.seen + 1) c.state.capacity) refl
look_meet_row w c n y e h false f = look_pass_unasked_row w c n y e h (rw f refl) (nat_lt (c.state.seen + 1) c.state.capacity) refl

pub row_look_probe : (w : World) (c : Call) (n : ℕ) (y : Bool) (o : Option Entry) → bucket_of w.table c.state ≡ o → Rows w c LookProbe (Read n y) (read o c.state.hash y)
row_look_probe w c n y None h = look_empty n y h
row_look_probe w c n y (Some e) h = look_meet_row w c n y e h (e.bits == bits_of c.state.hash) refl

-- a walk's next state, by whether there is a bucket left
abbrev walked : CallState → Bool → CallState
walked s b = if b then record s { phase = WalkAt; index = s.index + 1 } else record s { phase = Done; index = s.index + 1 }

pub walk_skip_row : (w : World) (c : Call) (n : ℕ) (y : Bool) → bucket_of w.table c.state ≡ None → (b : Bool) → nat_lt (c.state.index + 1) c.state.capacity ≡ b → Row w c WalkAt (Read n y) Empty (walked c.state b) (kept_list (walked c.state b).phase c.list) w.table (reply_at_end (walked c.state b).phase (Some (ReplyWalk c.list)))
walk_skip_row w c n y h true g = walk_skips n y h g
walk_skip_row w c n y h false g = walk_skips_last n y h g

pub walk_take_row : (w : World) (c : Call) (n : ℕ) (y : Bool) (e : Entry) → bucket_of w.table c.state ≡ Some e → (b : Bool) → nat_lt (c.state.index + 1) c.state.capacity ≡ b → Row w c WalkAt (Read n y) HoldsUnasked (walked c.state b) (kept_list (walked c.state b).phase (c.list ++ e.value ∷ [])) w.table (reply_at_end (walked c.state b).phase (Some (ReplyWalk (c.list ++ e.value ∷ []))))
walk_take_row w c n y e h true g = walk_takes n y e h g
walk_take_row w c n y e h false g = walk_takes_last n y e h g

pub row_walk_read : (w : World) (c : Call) (n : ℕ) (y : Bool) (o : Option Entry) → bucket_of w.table c.state ≡ o → Rows w c WalkAt (Read n y) (read_unasked o)
row_walk_read w c n y None h = walk_skip_row w c n y h (nat_lt (c.state.index + 1) c.state.capacity) refl
row_walk_read w c n y (Some e) h = rw h (walk_take_row w c n y e h (nat_lt (c.state.index + 1) c.state.capacity) refl)

pub size_row : (w : World) (c : Call) (n : ℕ) (g : Gen) → walked_gen w.table c.state ≡ Some g → (b : Bool) → nat_lt g.size (c.state.capacity / 2) ≡ b → Row w c AskSize (Size n) (Sized g.size) (if b then to Done c.state else to WantOwned c.state) c.list w.table (reply_at_end (if b then to Done c.state else to WantOwned c.state).phase (by_outcome w.table c))
size_row w c n g h true f = small n g h f
size_row w c n g h false f = large n g h f

pub row_size : (w : World) (c : Call) (n : ℕ) (o : Option Gen) → walked_gen w.table c.state ≡ o → (a : Answer) → sized o ≡ Some a → Rows w c AskSize (Size n) a
row_size w c n None h a f = absurd (cc)
row_size w c n (Some g) h a f = along (Rows w c AskSize (Size n)) _ a f (size_row w c n g h (nat_lt g.size (c.state.capacity / 2)) refl)

pub row_len_size : (w : World) (c : Call) (n : ℕ) (o : Option Gen) → walked_gen w.table c.state ≡ o → (a : Answer) → sized o ≡ Some a → Rows w c LenSize (Size n) a
row_len_size w c n None h a f = absurd (cc)
row_len_size w c n (Some g) h a f = along (Rows w c LenSize (Size n)) _ a f (len_size n g h)

pub check_wanted : (w : World) (c : Call) (n : ℕ) (g : Gen) (m b : Bool) → current w.table ≡ Some g → nat_lt g.size (g.capacity / 2) ≡ false → (g.capacity == 2 ^ 63) ≡ b → Rows w c Owned (Check n m) (if m && not b then Begun else Failed)
check_wanted w c n g true false h f k = begins_next n g h f k
check_wanted w c n g true true h f k = fails_largest n true g h f (eqb-true g.capacity (2 ^ 63) k)
check_wanted w c n g false true h f k = fails_refused n g h f
check_wanted w c n g false false h f k = fails_refused n g h f

pub check_next : (w : World) (c : Call) (n : ℕ) (g : Gen) (m b : Bool) → current w.table ≡ Some g → nat_lt g.size (g.capacity / 2) ≡ b → Rows w c Owned (Check n m) (if b then Unwanted else (if m && not (g.capacity == 2 ^ 63) then Begun else Failed))
check_next w c n g m true h f = unwanted n m g h f
check_next w c n g m false h f = check_wanted w c n g m (g.capacity == 2 ^ 63) h f refl

pub row_check : (w : World) (c : Call) (n : ℕ) (m : Bool) (o : Option Gen) → current w.table ≡ o → Rows w c Owned (Check n m) (checked o m)
row_check w c n true None h = begins_first n h
row_check w c n false None h = fails_first n h
row_check w c n m (Some g) h = check_next w c n g m (nat_lt g.size (g.capacity / 2)) h refl

pub row_copy : (w : World) (c : Call) (n k : ℕ) (o : Option Entry) → next_copied w.table ≡ o → (a : Answer) → finds_copy o ≡ Some a → Rows w c Building (Copy n k) a
row_copy w c n k None h a f = absurd (cc)
row_copy w c n k (Some e) h a f = along (Rows w c Building (Copy n k)) _ a f (rw h (copies n k e h))

pub row_show : (w : World) (c : Call) (n : ℕ) (o : Option Entry) → next_copied w.table ≡ o → (a : Answer) → finds_show o ≡ Some a → Rows w c Building (Show n) a
row_show w c n None h a f = along (Rows w c Building (Show n)) _ a f (shows n h)
row_show w c n (Some e) h a f = absurd (cc)

pub end_row : (w : World) (c : Call) (n : ℕ) (b : Bool) → is_pending c.state.outcome ≡ b → Row w c LeaveOwned (Free n) Released (if b then to WantShared c.state else to Done c.state) c.list w.table (reply_at_end (if b then to WantShared c.state else to Done c.state).phase (by_outcome w.table c))
end_row w c n true h = starts_over n h
end_row w c n false h = ends n h

pub fail_row : (w : World) (c : Call) (n : ℕ) (b k : Bool) → is_pending c.state.outcome ≡ b → is_current w.table.gens c.state.walked ≡ k → Row w c LeaveFailed (Free n) (ReleasedAfterFailure k) (if b && (if k then false else true) then to WantShared c.state else to Done c.state) c.list w.table (reply_at_end (if b && (if k then false else true) then to WantShared c.state else to Done c.state).phase (if b then refused c.value else by_outcome w.table c))
fail_row w c n true true h k = gives_up n h k
fail_row w c n true false h k = tries_again n h k
fail_row w c n false true h k = rw (← k) (ends_failed n h)
fail_row w c n false false h k = rw (← k) (ends_failed n h)

-- what an event finds is a row
pub row : (w : World) (c : Call) (p : Phase) (x : Event) (a : Answer) → finds_in p w c.state x ≡ Some a → Rows w c p x a
row w c WantShared (Share n) a f = by_taken (Rows w c WantShared (Share n)) (is_owned w.calls) (is_owned w.calls) refl (shares n) a f
row w c Shared (Load n) a f = along (Rows w c Shared (Load n)) _ a f (by_current w (Rows w c Shared (Load n)) (current w.table) refl (loads_none n) (loads n))
row w c Probe (Read n y) a f = along (Rows w c Probe (Read n y)) _ a f (row_probe w c n y (bucket_of w.table c.state) refl)
row w c AtEmpty (Put n y m) a f = along (Rows w c AtEmpty (Put n y m)) _ a f (row_put w c n y m)
row w c Placed (Add n) a f = along (Rows w c Placed (Add n)) _ a f (adds n)
row w c LeaveOk (Free n) a f = along (Rows w c LeaveOk (Free n)) _ a f (leaves_ok n)
row w c LeaveGrow (Free n) a f = along (Rows w c LeaveGrow (Free n)) _ a f (leaves_grow n)
row w c LeaveRefused (Free n) a f = along (Rows w c LeaveRefused (Free n)) _ a f (leaves_refused n)
row w c AskSize (Size n) a f = row_size w c n (walked_gen w.table c.state) refl a f
row w c WantOwned (Own n) a f = by_taken (Rows w c WantOwned (Own n)) (is_locked w.calls) (is_locked w.calls) refl (owns n) a f
row w c Owned (Check n m) a f = along (Rows w c Owned (Check n m)) _ a f (row_check w c n m (current w.table) refl)
row w c Building (Copy n k) a f = row_copy w c n k (next_copied w.table) refl a f
row w c Building (Show n) a f = row_show w c n (next_copied w.table) refl a f
row w c LeaveOwned (Free n) a f = along (Rows w c LeaveOwned (Free n)) _ a f (end_row w c n (is_pending c.state.outcome) refl)
row w c LeaveFailed (Free n) a f = along (Rows w c LeaveFailed (Free n)) _ a f (fail_row w c n (is_pending c.state.outcome) (is_current w.table.gens c.state.walked) refl refl)
row w c LookLoad (Load n) a f = along (Rows w c LookLoad (Load n)) _ a f (by_current w (Rows w c LookLoad (Load n)) (current w.table) refl (looks_none n) (looks n))
row w c LookProbe (Read n y) a f = along (Rows w c LookProbe (Read n y)) _ a f (row_look_probe w c n y (bucket_of w.table c.state) refl)
row w c LenLoad (Load n) a f = along (Rows w c LenLoad (Load n)) _ a f (by_current w (Rows w c LenLoad (Load n)) (current w.table) refl (len_none n) (len_loads n))
row w c LenSize (Size n) a f = row_len_size w c n (walked_gen w.table c.state) refl a f
row w c WalkLoad (Load n) a f = along (Rows w c WalkLoad (Load n)) _ a f (by_current w (Rows w c WalkLoad (Load n)) (current w.table) refl (walk_none n) (walk_loads n))
row w c WalkAt (Read n y) a f = along (Rows w c WalkAt (Read n y)) _ a f (row_walk_read w c n y (bucket_of w.table c.state) refl)
row w c _ x a f = absurd (cc)

-- what is done is taken by the table of events
abbrev pub StepsBy : World → Event → Option Act → Type 0
StepsBy w x None = Unit {0}
StepsBy w x (Some a) = Takes w x a (after_act w x (Some a)) (finished_by w (Some a))

pub step_begins : (w : World) (x : Event) (n : ℕ) (v : Option ℕ) (p : Phase) (h : ℕ) (b : Bool) → in_range x ≡ true → Opens x n v p h → (b ≡ false → (is_used n w.calls ≡ false) × IsNewValue w.calls v) → StepsBy w x (begins_unless b (starts n v p h))
step_begins w x n v p h true r o f = tt
step_begins w x n v p h false r o f = begins n v p h r o (f refl).0 (f refl).1

pub step_finds : (w : World) (x : Event) (c : Call) (o : Option Answer) → in_range x ≡ true → call_numbered (number_of x) w.calls ≡ Some c → finds w c.state x ≡ o → StepsBy w x (goes_by c o)
step_finds w x c None r h f = tt
step_finds w x c (Some a) r h f = goes c c.state.phase a (decided c.state.phase c.state a) (list_in c.state.phase w.table c a) (changed w.table c x a) (reply_in c.state.phase w.table c a) r h refl (row w c c.state.phase x a f)

pub step_goes : (w : World) (x : Event) (o : Option Call) → in_range x ≡ true → call_numbered (number_of x) w.calls ≡ o → StepsBy w x (call_acts w o x)
step_goes w x None r h = tt
step_goes w x (Some c) r h = step_finds w x c (finds w c.state x) r h refl

pub step_of : (w : World) (x : Event) → in_range x ≡ true → StepsBy w x (act_of w x)
step_of w (Insert n v h) r = step_begins w (Insert n v h) n (Some v) WantShared h (is_used n w.calls || is_used_value v w.calls) r (opens_insert n v h) (or_parts _ _)
step_of w (Lookup n h) r = step_begins w (Lookup n h) n None LookLoad h (is_used n w.calls) r (opens_lookup n h) (λ f. (f, tt))
step_of w (Len n) r = step_begins w (Len n) n None LenLoad 0 (is_used n w.calls) r (opens_len n) (λ f. (f, tt))
step_of w (Walk n) r = step_begins w (Walk n) n None WalkLoad 0 (is_used n w.calls) r (opens_walk n) (λ f. (f, tt))
step_of w (Share n) r = step_goes w (Share n) (call_numbered n w.calls) r refl
step_of w (Own n) r = step_goes w (Own n) (call_numbered n w.calls) r refl
step_of w (Free n) r = step_goes w (Free n) (call_numbered n w.calls) r refl
step_of w (Load n) r = step_goes w (Load n) (call_numbered n w.calls) r refl
step_of w (Read n y) r = step_goes w (Read n y) (call_numbered n w.calls) r refl
step_of w (Put n y m) r = step_goes w (Put n y m) (call_numbered n w.calls) r refl
step_of w (Add n) r = step_goes w (Add n) (call_numbered n w.calls) r refl
step_of w (Size n) r = step_goes w (Size n) (call_numbered n w.calls) r refl
step_of w (Check n m) r = step_goes w (Check n m) (call_numbered n w.calls) r refl
step_of w (Copy n k) r = step_goes w (Copy n k) (call_numbered n w.calls) r refl
step_of w (Show n) r = step_goes w (Show n) (call_numbered n w.calls) r refl

pub step_if : (w : World) (x : Event) (b : Bool) → in_range x ≡ b → StepsBy w x (if b then act_of w x else None)
step_if w x true r = step_of w x r
step_if w x false r = tt

-- what an event does is taken by the table of events
pub steps : (w : World) (x : Event) → StepsBy w x (acts w x)
steps w x = step_if w x (in_range x) refl
