-- What holds of a call between two steps.
use Rattle.std.specs.Prelude.{◌≡◌, ◌≢◌, ℕ, Bool, true, nat_lt, Option, Some, None, length}
use Rattle.std.specs.Borrow.{Bor}
use Rattle.std.specs.Fn.{Shared as SharedFn}
use Rattle.std.specs.Option.{ForSome}
use Rattle.table_generations.specs.Generations.{GenerationView}
use Rattle.table_core.specs.Calls.{decided, stands_at_bucket}
use Rattle.table_core.specs.declared.call.Answer.TheVariants.{NoGeneration}
use Rattle.table_core.specs.declared.call.CallState.{CallState}
use Rattle.table_core.specs.declared.call.Outcome.{Outcome}
use Rattle.table_core.specs.declared.call.Outcome.TheVariants.{Pending}
use Rattle.table_core.specs.declared.call.Phase.{Phase}
use Rattle.table_core.specs.declared.call.Phase.TheVariants.{Building, Done, LookLoad, LookProbe, Probe, Shared}
use Rattle.table_core.specs.RunningPhases.{Inserts, AtBucket, Hopes, Looks, Walks, lock_in, reached}
use Rattle.table_core.specs.RunningSteps.{Starting}
use Rattle.table_shared.specs.declared.insert.between.Asking.{Asking}
use Rattle.table_shared.specs.declared.insert.between.Carried.{Carried}
use Rattle.table_shared.specs.declared.insert.between.Carried.TheVariants.{Gone}
use Rattle.table_shared.specs.declared.insert.between.HeldLock.{HeldLock}
use Rattle.table_shared.specs.Carried.{Asks, reach_of, value_in, own_in, lock_of, table_in}
use Rattle.table_shared.specs.Growths.{GrowthView}

-- an insert of this value into a table of this home, in this state, with the generation that it walks,
-- the one that it makes, what it carries, and the lock that it holds
pub record IsBetween {A V X : Type 0} (home : ℕ) (target : V → X) (given : V) (s : CallState)
    (generation : Option (Bor (GenerationView A V))) (growth : Option (GrowthView V))
    (carried : Carried V (Bor X)) (held : HeldLock) : Type 0 where
  -- it can be in this phase, and has no outcome before its phase says so
  pub inserts : Inserts s.phase
  pub hopes : Hopes s.phase → s.outcome ≡ Pending
  -- it stands at a bucket of the generation that it walks
  pub stands : AtBucket s.phase → stands_at_bucket s ≡ true
  pub wide : Walks s.phase → nat_lt 0 s.capacity ≡ true
  pub walks : Walks s.phase → generation ≢ None
  pub counts : ForSome generation (λ g. length g.now.contents ≡ s.capacity)
  pub homes : ForSome generation (λ g. g.now.home ≡ home)
  -- it holds the lock that its phase says, which is this table's
  pub locks : lock_of held ≡ lock_in s.phase
  pub of_table : ForSome (table_in held) (λ h. h ≡ home)
  -- it makes a generation of this home while it builds
  pub builds : s.phase ≡ Building → growth ≢ None
  pub grows : ForSome growth (λ g. g.home ≡ home)
  -- until its end it carries its value, or the target of its own entry
  pub there : s.phase ≢ Done → carried ≢ Gone
  pub tells : carried ≢ Gone → reach_of carried ≡ Some (reached s.phase s.outcome)
  pub stems : ForSome (value_in carried) (λ v. v ≡ given)
  pub owns : ForSome (own_in carried) (λ r. r.now ≡ target given)

-- an insert that asks like this and goes on step by step: it isn't over, and makes no generation yet
pub record Onward {A V X E H : Type 0} (home : ℕ) (CallE : E → Type 0) (CallH : H → Type 0) (target : V → X)
    (says : SharedFn E (Bor X × (Bor X × Unit {0})) Bool) (asking : Asking V E H) (s : CallState)
    (generation : Option (Bor (GenerationView A V))) (carried : Carried V (Bor X)) (held : HeldLock) : Type 0 where
  pub unfinished : s.phase ≢ Done
  pub between : IsBetween home target asking.given.value s generation None carried held
  pub asks : Asks CallE CallH target says asking carried

-- an insert that stands in this phase and has this outcome, in the generation of this number, and that asks like this
pub record StandsIn {A V X E H : Type 0} (home : ℕ) (CallE : E → Type 0) (CallH : H → Type 0) (target : V → X)
    (says : SharedFn E (Bor X × (Bor X × Unit {0})) Bool) (asking : Asking V E H) (s : CallState) (p : Phase) (n : ℕ)
    (o : Outcome) (generation : Bor (GenerationView A V)) (carried : Carried V (Bor X)) (held : HeldLock) : Type 0 where
  pub phase : s.phase ≡ p
  pub number : s.walked ≡ Some n
  pub outcome : s.outcome ≡ o
  pub between : IsBetween home target asking.given.value s (Some generation) None carried held
  pub asks : Asks CallE CallH target says asking carried

-- a look-up into a table of this home, in this state, with the generation that it walks
pub record IsLooking {A V : Type 0} (home : ℕ) (s : CallState) (generation : Option (Bor (GenerationView A V))) : Type 0 where
  -- it can be in this phase, and has no outcome before its end
  pub looks : Looks s.phase
  pub pending : s.phase ≢ Done → s.outcome ≡ Pending
  -- it stands at a bucket of the generation that it walks
  pub stands : s.phase ≡ LookProbe → stands_at_bucket s ≡ true
  pub walks : s.phase ≡ LookProbe → generation ≢ None
  pub counts : ForSome generation (λ g. length g.now.contents ≡ s.capacity)
  pub homes : ForSome generation (λ g. g.now.home ≡ home)

-- a call that loads this generation of a table of this home starts its probe in it
pub record StartsIn {A V : Type 0} (home : ℕ) (s : CallState) (g : GenerationView A V) (t : CallState) : Type 0 where
  pub number : ℕ
  pub starting : Starting s t number (length g.contents)
  pub homes : g.home ≡ home
  pub insert : s.phase ≡ Shared → t.phase ≡ Probe
  pub look : s.phase ≡ LookLoad → t.phase ≡ LookProbe

-- a call that loads the current generation starts in it, if there is one
abbrev pub Loads : {A V : Type 0} → ℕ → CallState → Option (Bor (GenerationView A V)) → CallState → Type 0
Loads home s None t = t ≡ decided s.phase s NoGeneration
Loads home s (Some g) t = StartsIn home s g.now t
