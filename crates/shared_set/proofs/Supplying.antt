-- The numbers that a handle has are of its slab.
use Rattle.std.proofs.Common.{◌≡◌, subst}
use Rattle.std.specs.Prelude.{ℕ, Option, Some, None, IfSome}
use Rattle.table_slab.specs.Held.{IsRightTo}
use Rattle.table_slab.specs.Numbering.{IsSmall}
use Rattle.table_slab.specs.Runs.{IsRunOf}
use Rattle.table_slab.specs.Slabs.{SlabView}
use Rattle.table_slab.specs.declared.run.Run.{Run}
use Rattle.table_slab.specs.declared.slab.Right.{Right}
use Rattle.table_numbered.specs.Words.{IsNumber}
use Rattle.shared_set.specs.Supplies.{IsVacant}

module _ {V A : Type 0} (s : SlabView) where
  -- what a run hands out is the right to an empty slot
  pub vacant : (run : Run V A) (r : Option (ℕ × Right V A)) → IsRunOf s run
      → IfSome r (λ x. (t : SlabView) → IsRunOf t run → IsRightTo t x.0 x.1) → IfSome r (λ x. IsSmall x.0) → IfSome r (λ x. x.1.room.value ≡ None) → IfSome r (IsVacant s)
  vacant run None of number small empty = tt
  vacant run (Some x) of number small empty = record { right = number s of; small = small; empty = empty }

  -- a right that comes back is to an empty slot
  pub vacant_back : (t : SlabView) (k : ℕ) (r : Right V A) → t ≡ s → IsNumber k → IsRightTo t k r → r.room.value ≡ None → IsVacant s (k, r)
  vacant_back t k r is small right empty = record { right = subst (λ (x : SlabView). IsRightTo x k r) is right; small = small; empty = empty }
