-- What the phase of a running call says: of its lock, of its outcome, and of the bucket at which it stands.
use Rattle.std.specs.Prelude.{◌≡◌, ℕ, ◌+◌, ◌-◌, ◌^◌, Bool, true, false, ◌&&◌, ◌||◌, T}
use Rattle.table_core.specs.Phases.{ALookup, AnyCall, Lock, No, Yes, about, is_insert, can_meet}
use Rattle.table_core.specs.Phases.{reads, leaves, goes_on, stands}
use Rattle.table_core.specs.declared.call.Phase.{Phase}
use Rattle.table_core.specs.declared.call.Phase.TheVariants.{Placed, LookLoad, LookProbe}
use Rattle.table_core.specs.declared.call.Outcome.{Outcome}
use Rattle.table_core.specs.declared.call.Outcome.TheVariants.{Pending, New, Existing}
use Rattle.table_core.specs.declared.call.CallState.{CallState}

-- Locks

-- the lock that a call in this phase holds
abbrev pub lock_in : Phase → Lock
lock_in p = (about p).lock

-- Phases of an insert

-- an insert can be in this phase
abbrev pub Inserts : Phase → Type 0
Inserts p = is_insert p ≡ true

-- an insert in this phase can meet an entry
abbrev pub Meets : Phase → Type 0
Meets p = T (is_insert p && can_meet (about p).next)

-- a call in this phase reads a bucket
abbrev pub ReadsBucket : Phase → Type 0
ReadsBucket p = T (reads (about p).next)

-- a call in this phase can meet an entry
abbrev pub MeetsEntry : Phase → Type 0
MeetsEntry p = T (can_meet (about p).next)

-- an insert in this phase stands at a bucket
abbrev pub AtBucket : Phase → Type 0
AtBucket p = T (stands p)

-- an insert in this phase has no outcome yet
abbrev pub Hopes : Phase → Type 0
Hopes p = T (is_insert p && elim (about p).outcome [ No ↦ true | _ ↦ false ])

-- an insert in this phase goes on with the generation that it loaded: it stands at a bucket of it, or
-- it has an outcome
abbrev pub Walks : Phase → Type 0
Walks p = T (stands p || (is_insert p && elim (about p).outcome [ Yes ↦ true | _ ↦ false ]))

-- an insert in this phase releases its lock
abbrev pub Leaves : Phase → Type 0
Leaves p = T (leaves (about p).next)

-- an insert in this phase goes on without waiting for a lock
abbrev pub Turns : Phase → Type 0
Turns p = T (goes_on (about p).next)

-- Outcomes

-- what a call has reached: nothing, an entry of its own, or an entry that it accepted
pub data Reached : Type 0 where
  Nothing : Reached
  Own : Reached
  Other : Reached

-- what this outcome says that the call has reached
abbrev pub reached_by : Outcome → Reached
reached_by Pending = Nothing
reached_by (New _) = Own
reached_by (Existing _) = Other

-- what a call in this phase will tell: a value that is placed and not counted yet is told too
abbrev pub reached : Phase → Outcome → Reached
reached Placed o = Own
reached _ o = reached_by o

-- Phases of a look-up

-- whether a look-up can be in this phase
abbrev pub is_look : Phase → Bool
is_look p = elim (about p).caller [ ALookup ↦ true | AnyCall ↦ true | _ ↦ false ]

-- a look-up can be in this phase
abbrev pub Looks : Phase → Type 0
Looks p = is_look p ≡ true

-- how many steps a look-up in this phase has left at most
abbrev pub left_in : Phase → CallState → ℕ
left_in LookLoad s = 2 ^ 64 + 1
left_in LookProbe s = s.capacity - s.seen + 1
left_in _ s = 0

-- how many steps a look-up has left at most
abbrev pub left : CallState → ℕ
left s = left_in s.phase s
