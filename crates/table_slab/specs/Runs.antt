-- Numbers in a row, with the rights to them.
use Rattle.std.specs.Prelude.{◌≡◌, ℕ, ◌+◌, ◌^◌, ◌<◌, ◌≤◌, List, length, Some}
use Rattle.table_slab.specs.Counting.{part}
use Rattle.table_slab.specs.Numbering.{chunk_len, IsAt}
use Rattle.table_slab.specs.Slabs.{SlabView, id_at}
use Rattle.table_slab.specs.declared.run.Run.{Run}
use Rattle.table_slab.specs.declared.site.Site.{Site}

-- the numbers are those of slots in a row of a chunk of this slab, with the rights to these slots
pub record AreNext {T A : Type 0} (s : SlabView) (r : Run T A) : Type 0 where
  pub site : Site (List ℕ)
  pub offset : ℕ
  pub known : r.site ≡ Some site
  pub inside : r.place < length s.cells
  pub small : s.bits + r.place < 32
  pub holds : site.cell ≡ id_at s.cells r.place
  pub at : IsAt s.bits r.number r.place offset
  pub within : offset + r.left ≤ length site.value
  pub few : offset + r.left ≤ chunk_len s.bits r.place
  pub fits : r.number + r.left + 2 ≤ 2 ^ 32
  pub rooms : r.rooms.names ≡ part site.value offset r.left

-- the run is of this slab: if a number is left, the next numbers are of it
abbrev pub IsRunOf : {T A : Type 0} → SlabView → Run T A → Type 0
IsRunOf s r = 0 < r.left → AreNext s r
