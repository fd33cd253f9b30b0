-- What is said of each phase, in one table: which calls can be in it, how they hold the lock, what
-- they do next, and whether they have an outcome.
use Rattle.std.specs.Prelude.{Bool, true, false, ◌&&◌}
use Rattle.table_core.specs.declared.call.Phase.{Phase}
use Rattle.table_core.specs.declared.call.Phase.TheVariants.{WantShared, Shared, Probe, AtEmpty}
use Rattle.table_core.specs.declared.call.Phase.TheVariants.{Placed, LeaveOk, LeaveGrow}
use Rattle.table_core.specs.declared.call.Phase.TheVariants.{LeaveRefused, AskSize, WantOwned}
use Rattle.table_core.specs.declared.call.Phase.TheVariants.{Owned, Building, LeaveOwned}
use Rattle.table_core.specs.declared.call.Phase.TheVariants.{LeaveFailed, LookLoad, LookProbe}
use Rattle.table_core.specs.declared.call.Phase.TheVariants.{LenLoad, LenSize, WalkLoad, WalkAt}
use Rattle.table_core.specs.declared.call.Phase.TheVariants.{Done}

-- which calls can be in a phase
pub data Caller : Type 0 where
  AnInsert : Caller
  ALookup : Caller
  ALength : Caller
  AWalk : Caller
  AnyCall : Caller

-- how a call holds the table's lock: not at all, shared, or alone
pub data Lock : Type 0 where
  Free : Lock
  Shares : Lock
  Owns : Lock

-- what a call does next
pub data Next : Type 0 where
  -- it waits for the lock
  Waits : Next
  -- it loads the current generation
  Loads : Next
  -- it reads a bucket of its probe, for an entry that it accepts
  Reads : Next
  -- it puts its value into a bucket of its probe that was empty
  Puts : Next
  -- it counts the value that it has put into a bucket
  Counts : Next
  -- it asks for the size of its generation
  Asks : Next
  -- it sees whether growth is wanted, and begins it
  Grows : Next
  -- it copies an entry into the next generation, or shows that one
  Builds : Next
  -- it releases the lock
  Leaves : Next
  -- it puts the entry of a bucket, if any, into its list
  Lists : Next
  -- it has ended
  Ends : Next

-- it reads a bucket of its probe
abbrev pub reads : Next → Bool
reads Reads = true
reads _ = false

-- it can meet an entry: it reads a bucket of its probe, or puts its value into one
abbrev pub can_meet : Next → Bool
can_meet Puts = true
can_meet n = reads n

-- it stands at a bucket of its probe: it can meet an entry there, or counts its value
abbrev pub is_at_bucket : Next → Bool
is_at_bucket Counts = true
is_at_bucket n = can_meet n

-- it releases the lock
abbrev pub leaves : Next → Bool
leaves Leaves = true
leaves _ = false

-- it goes on without waiting for the lock
abbrev pub goes_on : Next → Bool
goes_on Waits = false
goes_on Ends = false
goes_on _ = true

-- whether a call has an outcome, as `CallState.outcome` has it: any but `Pending`
pub data HasOutcome : Type 0 where
  No : HasOutcome
  Yes : HasOutcome
  Either : HasOutcome

-- what is said of a phase
pub record About : Type 0 where
  -- which calls can be in it
  pub caller : Caller
  -- how such a call holds the lock
  pub lock : Lock
  -- what it does next
  pub next : Next
  -- whether its state has an outcome
  pub outcome : HasOutcome

-- the table: what is said of each phase
abbrev pub about : Phase → About
about WantShared = record { caller = AnInsert; lock = Free; next = Waits; outcome = No }
about Shared = record { caller = AnInsert; lock = Shares; next = Loads; outcome = No }
about Probe = record { caller = AnInsert; lock = Shares; next = Reads; outcome = No }
about AtEmpty = record { caller = AnInsert; lock = Shares; next = Puts; outcome = No }
about Placed = record { caller = AnInsert; lock = Shares; next = Counts; outcome = No }
about LeaveOk = record { caller = AnInsert; lock = Shares; next = Leaves; outcome = Yes }
about LeaveGrow = record { caller = AnInsert; lock = Shares; next = Leaves; outcome = No }
about LeaveRefused = record { caller = AnInsert; lock = Shares; next = Leaves; outcome = No }
about AskSize = record { caller = AnInsert; lock = Free; next = Asks; outcome = Yes }
about WantOwned = record { caller = AnInsert; lock = Free; next = Waits; outcome = Either }
about Owned = record { caller = AnInsert; lock = Owns; next = Grows; outcome = Either }
about Building = record { caller = AnInsert; lock = Owns; next = Builds; outcome = Either }
about LeaveOwned = record { caller = AnInsert; lock = Owns; next = Leaves; outcome = Either }
about LeaveFailed = record { caller = AnInsert; lock = Owns; next = Leaves; outcome = Either }
about LookLoad = record { caller = ALookup; lock = Free; next = Loads; outcome = No }
about LookProbe = record { caller = ALookup; lock = Free; next = Reads; outcome = No }
about LenLoad = record { caller = ALength; lock = Free; next = Loads; outcome = No }
about LenSize = record { caller = ALength; lock = Free; next = Asks; outcome = No }
about WalkLoad = record { caller = AWalk; lock = Free; next = Loads; outcome = No }
about WalkAt = record { caller = AWalk; lock = Free; next = Lists; outcome = No }
about Done = record { caller = AnyCall; lock = Free; next = Ends; outcome = Either }

-- whether an insert can be in this phase
abbrev pub is_insert : Phase → Bool
is_insert p = elim (about p).caller [ AnInsert ↦ true | AnyCall ↦ true | _ ↦ false ]

-- whether an insert in this phase stands at a bucket
abbrev pub stands : Phase → Bool
stands p = is_insert p && is_at_bucket (about p).next
