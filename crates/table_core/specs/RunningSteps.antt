-- What a step of a running call does to where it stands.
use Rattle.std.specs.Prelude.{◌≡◌, ◌≢◌, ◌<◌, ℕ, Bool, true, false, Some, nat_lt}
use Rattle.table_core.specs.Calls.{decide, fits, stands_at_bucket}
use Rattle.table_core.specs.declared.call.Phase.{Phase}
use Rattle.table_core.specs.declared.call.Phase.TheVariants.{LookLoad, LookProbe, AtEmpty, Building}
use Rattle.table_core.specs.declared.call.Phase.TheVariants.{LeaveFailed}
use Rattle.table_core.specs.declared.call.Outcome.TheVariants.{Pending}
use Rattle.table_core.specs.declared.call.Answer.{Answer}
use Rattle.table_core.specs.declared.call.Answer.TheVariants.{Holds, HoldsUnasked, Released}
use Rattle.table_core.specs.declared.call.Answer.TheVariants.{ReleasedAfterFailure}
use Rattle.table_core.specs.declared.call.CallState.{CallState}
use Rattle.table_core.specs.Phases.{Free, Shares}
use Rattle.table_core.specs.RunningPhases.{Inserts, AtBucket, Hopes, Walks, lock_in, reached, reached_by, Looks, left}

-- one step of a call: this answer fits where it stood, and decide makes of both where it stands
abbrev pub Went : CallState → CallState → Answer → Type 0
Went old new a = (fits old.phase old a ≡ true) × (new ≡ decide old a)

-- what a call found that passes an entry: it asked its closure, which said no, or it didn't ask
abbrev pub passed : Bool → Answer
passed true = Holds false
passed false = HoldsUnasked

-- what a call found that releases its lock: only after a failed growth the current generation counts
abbrev pub released : Phase → Bool → Answer
released LeaveFailed still_current = ReleasedAfterFailure still_current
released _ still_current = Released

-- what the load of a generation does
pub record Starting (old new : CallState) (number capacity : ℕ) : Type 0 where
  -- the call stands at a bucket of the generation loaded, which has one
  pub stands : stands_at_bucket new ≡ true
  pub wide : nat_lt 0 new.capacity ≡ true
  -- it walks that generation, and has reached what it had
  pub walked : (new.walked ≡ Some number) × (new.capacity ≡ capacity) × (new.outcome ≡ old.outcome)

-- what an insert does that passes an entry
pub record Passing (old new : CallState) : Type 0 where
  -- it is an insert still, and holds the lock shared
  pub inserts : Inserts new.phase
  pub lock : lock_in new.phase ≡ Shares
  -- it stands at a bucket to be read, or leaves
  pub stands : AtBucket new.phase → stands_at_bucket new ≡ true
  pub not_building : new.phase ≢ Building
  pub not_empty : new.phase ≢ AtEmpty
  pub wide : Walks new.phase → nat_lt 0 new.capacity ≡ true
  -- it walks the same generation, and has reached nothing
  pub same : (new.walked ≡ old.walked) × (new.capacity ≡ old.capacity) × (new.outcome ≡ old.outcome)
  pub pending : new.outcome ≡ Pending
  pub reached : reached new.phase new.outcome ≡ reached_by old.outcome

-- what an insert has before it releases its lock
abbrev pub LeavesWith : CallState → Type 0
LeavesWith s = (Hopes s.phase → s.outcome ≡ Pending) × (Walks s.phase → nat_lt 0 s.capacity ≡ true)

-- what an insert does that releases its lock
pub record Leaving (old new : CallState) : Type 0 where
  -- it is an insert still, and holds no lock
  pub inserts : Inserts new.phase
  pub lock : lock_in new.phase ≡ Free
  -- it stands at no bucket and builds nothing
  pub at_no_bucket : AtBucket new.phase → ⊥
  pub not_building : new.phase ≢ Building
  -- it goes on with its generation only where it had one, and starts over only without an outcome
  pub walks : Walks new.phase → Walks old.phase
  pub wide : Walks new.phase → nat_lt 0 new.capacity ≡ true
  pub pending : Hopes new.phase → new.outcome ≡ Pending
  -- it walks the same generation, and has reached what it had
  pub same : (new.walked ≡ old.walked) × (new.capacity ≡ old.capacity)
  pub reached : reached new.phase new.outcome ≡ reached old.phase old.outcome

-- what a look-up does that passes an entry
pub record LookingPast (old new : CallState) : Type 0 where
  -- it is a look-up still, with a step fewer to go
  pub looks : Looks new.phase
  pub started : new.phase ≢ LookLoad
  pub less : left new < left old
  -- it stands at a bucket, or has ended
  pub stands : new.phase ≡ LookProbe → stands_at_bucket new ≡ true
  -- it walks the same generation, and has reached what it had
  pub same : (new.walked ≡ old.walked) × (new.capacity ≡ old.capacity) × (new.outcome ≡ old.outcome)
