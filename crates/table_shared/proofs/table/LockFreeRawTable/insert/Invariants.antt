use Rattle.std.proofs.Common.{◌≡◌, ◌-◌, Some, None}
use Rattle.table_core.specs.declared.call.Phase.TheVariants.{Probe}
use Rattle.table_shared.specs.declared.insert.between.Carried.TheVariants.{Value}
use Rattle.table_shared.specs.declared.insert.between.HeldLock.TheVariants as held
use Rattle.table_shared.specs.Between.{IsBetween}
use Rattle.table_shared.proofs.table.LockFreeRawTable.insert.Given as goal

-- the insert stands at a bucket to be read in the generation of this number, and has its value
pub record IsProbing (Phase Walked Between Same : Type 0) : Type 0 where
  pub phase : Phase
  pub walked : Walked
  pub between : Between
  pub same : Same

abbrev pub invariant-loop-guard : goal.invariant-loop-guard
invariant-loop-guard g l =
    IsProbing (l.state.phase ≡ Probe) (l.state.walked ≡ Some l.number)
    (IsBetween l.self.home g.T.AtomicValue.target l.asking.given.value l.state (Some l.current.generation) None (Value l.value) (held.Shared l.guard))
    (l.value ≡ l.fn.value)

abbrev pub decreases-loop-guard : goal.decreases-loop-guard
decreases-loop-guard g l = l.state.capacity - l.state.seen
