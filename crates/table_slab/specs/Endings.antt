-- A slab that ends: what is left of its chunks.
use Rattle.std.specs.Prelude.{◌≡◌, ℕ, ◌+◌, List, length, map, slice_index_or, All, Option, Some, None}
use Rattle.table_slab.specs.Numbering.{IsAt}
use Rattle.table_slab.specs.Slabs.{SlabView, id_at, IsCell}
use Rattle.table_slab.specs.declared.ending.Cell.{Cell}
use Rattle.table_slab.specs.declared.ending.Cell.TheVariants as cell

-- a chunk that values were taken out of: the names that its slots had, and those that they have
abbrev pub Changed : Type 0
Changed = List ℕ × List ℕ

module _ {T A : Type 0} where
  -- the name of a cell of the slab
  abbrev pub name_of : Cell T A → ℕ
  name_of (cell.Shared w) = w.id
  name_of (cell.Own o) = o.site.cell
  name_of cell.Gone = 0

  abbrev pub change_of : Cell T A → Option Changed
  change_of (cell.Shared w) = None
  change_of (cell.Own o) = Some (o.site.value, o.slots)
  change_of cell.Gone = None

  -- the cell is as the slab left it, or its chunk has as many slots as before
  abbrev pub IsOpen : A → ℕ → Cell T A → Type 0
  IsOpen a h (cell.Shared w) = IsCell a h w
  IsOpen a h (cell.Own o) = length o.slots ≡ length o.site.value
  IsOpen a h cell.Gone = ⊥

  -- the slots of its chunk had the names ms, and have the names ns
  abbrev pub Opens : Cell T A → List ℕ → List ℕ → Type 0
  Opens (cell.Shared w) ms ns = ns ≡ ms
  Opens (cell.Own o) ms ns = (ms ≡ o.site.value) × (ns ≡ o.slots)
  Opens cell.Gone ms ns = ⊥

  pub record IsEnding (a : A) (h bits : ℕ) (cells : List (Cell T A)) : Type 0 where
    pub few : length cells + bits ≡ 32
    pub each : All (IsOpen a h) cells

-- the slab that ends, and what changed at each place
pub record EndView : Type 0 where
  pub slab : SlabView
  pub changed : List (Option Changed)

abbrev pub end_view : {T A : Type 0} → ℕ → List (Cell T A) → EndView
end_view bits cells = record { slab = record { bits = bits; cells = map name_of cells }; changed = map change_of cells }

-- the value of this number wasn't taken out
abbrev pub IsLeft : EndView → ℕ → Type 0
IsLeft e number = (place offset : ℕ) (c : Changed) → IsAt e.slab.bits number place offset → slice_index_or e.changed place None ≡ Some c → id_at c.1 offset ≡ id_at c.0 offset
