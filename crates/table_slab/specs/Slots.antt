-- The fields of `Slots` belong together.
use Rattle.core.specs.Prelude.{◌≡◌, ℕ, length}
use Rattle.table_slab.specs.declared.row.Deed.{Deed}
use Rattle.table_slab.specs.declared.row.Row.{Row}
use Rattle.table_slab.specs.declared.row.Start.{Start}

-- the row lies where the pointer says and has as many slots as the number says, and the right to free is that to its block
pub record BelongTogether {X A : Type 0} (start : Start X) (count : ℕ) (row : Row X) (deed : Deed X A) (alloc : A) : Type 0 where
  pub row_start : row.at ≡ start.at
  pub row_count : length row.names ≡ count
  pub deed_start : deed.at ≡ start.at
  pub deed_count : deed.count ≡ count
  pub deed_alloc : deed.alloc ≡ alloc
