-- What a contract sees of a call that goes step by step, and what one step of it does.
use Rattle.std.specs.Prelude.{Bool, true, Option, Some, None, IfSome}
use Rattle.std.specs.declared.result.Result.{Result}
use Rattle.std.specs.declared.result.Result.TheVariants.{Ok}
use Rattle.std.specs.Borrow.{Bor}
use Rattle.std.specs.Fn.{Shared as SharedFn, FnReturnsAtPair}
use Rattle.table_core.specs.declared.call.Answer.{Answer}
use Rattle.table_core.specs.declared.call.Phase.{Phase}
use Rattle.table_core.specs.declared.call.Phase.TheVariants.{WantShared, WantOwned, Done}
use Rattle.table_core.specs.declared.call.CallState.{CallState}
use Rattle.table_core.specs.RunningPhases.{Reached, Nothing, Other}
use Rattle.table_core.specs.RunningSteps.{Went}
use Rattle.table_shared.specs.declared.stepped.Progress.{Progress}
use Rattle.table_shared.specs.declared.stepped.Progress.TheVariants.{Moved, Blocked}
use Rattle.table_shared.specs.declared.stepped.Progress.TheVariants.{Done as Ended}

-- an insert: where it stands, the value given, its closures, and the target that it accepted
pub record InsertView (V X E H : Type 0) : Type 0 where
  pub state : CallState
  pub given : V
  pub eq : E
  pub hash_fn : H
  pub met : Option (Bor X)

-- a look-up: where it stands, and its test
pub record LookupView (F : Type 0) : Type 0 where
  pub state : CallState
  pub test : F

-- the closures of an insert can be called, and said yes of what it has met, asked with the value's target first
abbrev pub MayStep : {V X E H : Type 0} → (E → Type 0) → (H → Type 0) → (V → X) → SharedFn E (Bor X × (Bor X × Unit {0})) Bool → InsertView V X E H → Type 0
MayStep CallE CallH target g c =
    CallE c.eq × CallH c.hash_fn × IfSome c.met (λ r. FnReturnsAtPair g c.eq (target c.given) r.now true)

-- decide takes a call from the one state to the other, by one answer that fits
abbrev pub Advances : CallState → CallState → Type 0
Advances old new = (a : Answer) × Went old new a

-- in this phase a step can be blocked: the call wants a lock, or has ended
abbrev pub MayBlock : Phase → Type 0
MayBlock WantShared = Unit {0}
MayBlock WantOwned = Unit {0}
MayBlock Done = Unit {0}
MayBlock _ = ⊥

module _ {R : Type 0} where
  -- this holds where a step was taken that isn't the last
  abbrev pub IfMoved : Progress R → Type 0 → Type 0
  IfMoved Moved P = P
  IfMoved _ P = Unit {0}

  -- this holds where no step was taken
  abbrev pub IfBlocked : Progress R → Type 0 → Type 0
  IfBlocked Blocked P = P
  IfBlocked _ P = Unit {0}

  -- this holds of the reply where the last step was taken
  abbrev pub IfEnded : Progress R → (R → Type 0) → Type 0
  IfEnded (Ended reply) P = P reply
  IfEnded _ P = Unit {0}

  -- what the reply of a look-up tells
  abbrev pub found_by : Option R → Reached
  found_by None = Nothing
  found_by (Some shown) = Other

-- the target that was accepted, as the reply of an insert names it
abbrev pub accepted_in : {R V : Type 0} → Result (R × Option V) V → Option R
accepted_in (Ok (shown, Some back)) = Some shown
accepted_in _ = None
