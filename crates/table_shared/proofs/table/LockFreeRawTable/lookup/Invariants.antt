use Rattle.std.proofs.Common.{◌≢◌, Some}
use Rattle.table_core.specs.declared.call.Phase.TheVariants.{LookLoad}
use Rattle.table_core.specs.RunningPhases.{left}
use Rattle.table_shared.specs.Between.{IsLooking}
use Rattle.table_shared.proofs.table.LockFreeRawTable.lookup.Given as goal

-- the look-up has loaded its generation
pub record IsProbing (Loaded Between : Type 0) : Type 0 where
  pub loaded : Loaded
  pub between : Between

abbrev pub invariant-loop-current : goal.invariant-loop-current
invariant-loop-current g l = IsProbing (l.state.phase ≢ LookLoad) (IsLooking l.self.home l.state (Some l.current.generation))

abbrev pub decreases-loop-current : goal.decreases-loop-current
decreases-loop-current g l = left l.state
