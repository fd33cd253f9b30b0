-- When the calls of a schedule can take a step.
use Rattle.std.specs.Prelude.{Bool, All}
use Rattle.std.specs.Borrow.{Bor}
use Rattle.std.specs.Fn.{Shared as SharedFn}
use Rattle.table_shared.specs.Stepped.{MayStep}
use Rattle.testkit_replay.specs.declared.item.Item.{Item}
use Rattle.testkit_replay.specs.declared.running.Steps.{Steps}
use Rattle.testkit_replay.specs.declared.running.Steps.TheVariants.{Insert, Lookup}
use Rattle.testkit_replay.specs.declared.running.Calls.{Calls}

module _ {A E H F : Type 0} (CallE : E → Type 0) (CallH : H → Type 0) (CallF : F → Type 0)
    (says : SharedFn E (Bor Item × (Bor Item × Unit {0})) Bool) where
  -- the closures of these steps can be called
  abbrev pub MayGo : Steps A E H F → Type 0
  MayGo (Insert call) = MayStep CallE CallH (λ b. b.value) says call
  MayGo (Lookup call) = CallF call.test

  -- the closures of these calls can be called
  abbrev pub IsReady : Calls A E H F → Type 0
  IsReady calls = CallE calls.eq × CallH calls.hash_fn × CallF calls.test × All MayGo calls.begun.items
