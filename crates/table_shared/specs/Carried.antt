-- What an insert carries from step to step.
use Rattle.std.specs.Prelude.{◌≡◌, ℕ, Bool, true, Option, Some, None, IfSome}
use Rattle.std.specs.declared.result.Result.{Result}
use Rattle.std.specs.declared.result.Result.TheVariants.{Ok, Err}
use Rattle.std.specs.Borrow.{Bor}
use Rattle.std.specs.Fn.{Shared as SharedFn, FnReturnsAtPair}
use Rattle.table_core.specs.declared.call.CallState.{CallState}
use Rattle.table_core.specs.declared.call.Outcome.{Outcome}
use Rattle.table_core.specs.declared.call.Phase.{Phase}
use Rattle.table_core.specs.declared.call.Phase.TheVariants.{WantShared, WantOwned}
use Rattle.table_core.specs.Phases.{Lock, Free, Shares, Owns}
use Rattle.table_core.specs.RunningPhases.{Reached}
use Rattle.table_core.specs.RunningPhases.{Nothing as ReachedNothing, Own as ReachedOwn, Other as ReachedOther}
use Rattle.table_shared.specs.declared.insert.between.Carried.{Carried}
use Rattle.table_shared.specs.declared.insert.between.Carried.TheVariants.{Gone, Value, Own, Met}
use Rattle.table_shared.specs.declared.insert.between.Asking.{Asking}
use Rattle.table_shared.specs.declared.insert.between.HeldLock.{HeldLock}
use Rattle.table_shared.specs.declared.insert.between.HeldLock.TheVariants as held

-- the lock that is held
abbrev pub lock_of : HeldLock → Lock
lock_of held.Nothing = Free
lock_of (held.Shared guard) = Shares
lock_of (held.Owned guard) = Owns

-- the table whose lock is held, by its home
abbrev pub table_in : HeldLock → Option ℕ
table_in held.Nothing = None
table_in (held.Shared guard) = Some guard.home
table_in (held.Owned guard) = Some guard.home

-- the lock that a guard of this kind holds, if there is a guard
abbrev pub held_by : {G : Type 0} → (G → HeldLock) → Option G → HeldLock
held_by kind None = held.Nothing
held_by kind (Some guard) = kind guard

-- the state of these parts
abbrev pub state_by : Phase → ℕ → Option ℕ → ℕ → ℕ → ℕ → Outcome → CallState
state_by phase hash number capacity index seen outcome = record {
  phase = phase;
  hash = hash;
  walked = number;
  capacity = capacity;
  index = index;
  seen = seen;
  outcome = outcome;
}

-- an insert in this phase takes this lock
abbrev pub Wants : Phase → Lock → Type 0
Wants WantShared l = l ≡ Shares
Wants WantOwned l = l ≡ Owns
Wants _ l = ⊥

module _ {V R : Type 0} where
  -- what was reached, as what is carried tells
  abbrev pub reach_of : Carried V R → Option Reached
  reach_of Gone = None
  reach_of (Value v) = Some ReachedNothing
  reach_of (Own r) = Some ReachedOwn
  reach_of (Met r v) = Some ReachedOther

  -- the value, as long as it isn't placed
  abbrev pub value_in : Carried V R → Option V
  value_in Gone = None
  value_in (Value v) = Some v
  value_in (Own r) = None
  value_in (Met r v) = Some v

  -- the target of the value once it is placed
  abbrev pub own_in : Carried V R → Option R
  own_in (Own r) = Some r
  own_in _ = None

  -- what carries this target and this value
  abbrev pub carried_by : Option R → Option V → Carried V R
  carried_by None None = Gone
  carried_by None (Some v) = Value v
  carried_by (Some r) None = Own r
  carried_by (Some r) (Some v) = Met r v

  -- the target that was accepted
  abbrev pub met_in : Carried V R → Option R
  met_in (Met r v) = Some r
  met_in _ = None

  -- this answer shows what is carried
  abbrev pub IsAnswer : Carried V R → Result (R × Option V) V → Type 0
  IsAnswer Gone r = ⊥
  IsAnswer (Value v) r = r ≡ Err v
  IsAnswer (Own t) r = r ≡ Ok (t, None)
  IsAnswer (Met t v) r = r ≡ Ok (t, Some v)

-- what was accepted is something of which the closure said yes, asked with the value's target first
abbrev pub Heard : {V X E : Type 0} → (V → X) → SharedFn E (Bor X × (Bor X × Unit {0})) Bool → E → V
    → Carried V (Bor X) → Type 0
Heard target g eq value c = IfSome (met_in c) (λ r. FnReturnsAtPair g eq (target value) r.now true)

-- the closures can be called, and what was accepted was
pub record Asks {V X E H : Type 0} (CallE : E → Type 0) (CallH : H → Type 0) (target : V → X)
    (says : SharedFn E (Bor X × (Bor X × Unit {0})) Bool) (a : Asking V E H) (c : Carried V (Bor X)) : Type 0 where
  pub calls_eq : CallE a.eq
  pub calls_hash : CallH a.hash_fn
  pub heard : Heard target says a.eq a.given.value c
