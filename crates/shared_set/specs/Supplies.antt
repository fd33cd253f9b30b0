-- The numbers that a handle has taken ahead.
use Rattle.std.specs.Prelude.{◌≡◌, ℕ, ◌+◌, ◌<◌, Option, IfSome, None, Some}
use Rattle.table_slab.specs.Held.{IsRightTo}
use Rattle.table_slab.specs.Runs.{IsRunOf}
use Rattle.table_slab.specs.Slabs.{SlabView}
use Rattle.table_slab.specs.declared.slab.Right.{Right}
use Rattle.table_numbered.specs.Words.{IsNumber}
use Rattle.shared_set.specs.declared.supply.Supply.{Supply}

-- a number of the slab that a word has room for, with the right to its empty slot
pub record IsVacant {V A : Type 0} (s : SlabView) (r : ℕ × Right V A) : Type 0 where
  pub right : IsRightTo s r.0 r.1
  pub small : IsNumber r.0
  pub empty : r.1.room.value ≡ None

-- the numbers are of this slab
pub record IsSupplyOf {V A : Type 0} (s : SlabView) (supply : Supply V A) : Type 0 where
  pub spare : IfSome supply.spare (IsVacant s)
  pub run : IsRunOf s supply.run
  pub want : 0 < supply.want

-- 1 if there is a spare number, and else 0
abbrev pub spares : {X : Type 0} → Option X → ℕ
spares None = 0
spares (Some x) = 1

-- how many numbers a supply has
abbrev pub count_of : {V A : Type 0} → Supply V A → ℕ
count_of supply = spares supply.spare + supply.run.left
