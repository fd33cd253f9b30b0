-- The states that schedules lead to, and what one event does to such a state at the position of
-- its call.
use Rattle.std.specs.Prelude.{ℕ, ◌≡◌, ◌<◌, ◌++◌, ◌||◌, Bool, true, false, Option, Some, None}
use Rattle.std.specs.Prelude.{List, [], ◌∷◌, length, slice_set}
use Rattle.table_core.specs.Replies.{Reply, ReplyPlaced}
use Rattle.table_core.specs.Generations.{Gen, Build, Table, bucket, first_empty, current}
use Rattle.table_terms.specs.Capacities.{IsFirstCapacity}
use Rattle.table_core.specs.Calls.{Call, is_used, is_used_value}
use Rattle.table_core.specs.Machine.{World, after, walked_gen, bucket_of, checked, changed}
use Rattle.table_core.specs.Machine.{call_after, reply, found_entry}
use Rattle.table_core.specs.declared.generation.Entry.{Entry}
use Rattle.table_core.specs.declared.event.Event.{Event}
use Rattle.table_core.specs.declared.event.Event.TheVariants.{Put, Add, Check, Copy}
use Rattle.table_core.specs.declared.call.Answer.{Answer}
use Rattle.table_core.specs.declared.call.Answer.TheVariants.{Won, Counted, Begun, Copied}

-- some schedule leads to this world
pub record IsReached (w : World) : Type 0 where
  pub first : ℕ
  pub allowed : IsFirstCapacity first
  pub schedule : List Event
  pub leads : after first schedule ≡ w

-- whether a call with this number, or an insert of this value, may not begin
abbrev pub may_not_begin : ℕ → Option ℕ → List Call → Bool
may_not_begin n None calls = is_used n calls
may_not_begin n (Some v) calls = is_used n calls || is_used_value v calls

-- the world with this call more, unless it may not begin
abbrev pub with_call_unless : World → Bool → Call → World
with_call_unless w true c = w
with_call_unless w false c = record w { calls = w.calls ++ c ∷ [] }

-- the world after the call at this position has found this
abbrev pub moved : World → ℕ → Call → Event → Option Answer → World
moved w i c x None = w
moved w i c x (Some a) =
    record { table = changed w.table c x a; calls = slice_set w.calls i (call_after w.table c a) }

-- what it is told
abbrev pub reply_to : World → Call → Option Answer → Option Reply
reply_to w c None = None
reply_to w c (Some a) = reply w.table c a

-- the table can be changed so
abbrev pub CanChange : Table → Call → Event → Answer → Type 0
CanChange t c (Put _ _ _) Won = (bucket_of t c.state ≡ None) × (t.building ≡ None)
CanChange t c (Add _) Counted =
    (t.building ≡ None) × ((g : Gen) → walked_gen t c.state ≡ Some g → g.size < length g.entries)
CanChange t c (Check _ _) Begun = checked (current t) true ≡ Begun
CanChange t c (Copy _ hash) Copied =
    (b : Build) → t.building ≡ Some b → bucket b.gen.entries (first_empty b.gen hash) ≡ None
CanChange t c _ _ = Unit {0}

-- what an insert is told that has placed its value
abbrev pub reply_placed : Option ℕ → Option Reply
reply_placed None = None
reply_placed (Some v) = Some (ReplyPlaced v)

-- what an insert is told that has accepted this entry
abbrev pub reply_found : Option Entry → Option ℕ → Option Reply
reply_found o None = None
reply_found o (Some v) = found_entry o v
