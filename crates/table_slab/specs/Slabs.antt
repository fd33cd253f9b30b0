-- What clauses see of a slab: how its numbers lie in chunks, and the names of the cells that its chunks go into.
use Rattle.std.specs.Prelude.{◌≡◌, ℕ, ◌+◌, ◌<◌, ◌≤◌, List, [], length, map, slice_index_or, true, None, All}
use Rattle.table_cell.specs.Words.{WordView}
use Rattle.table_slab.specs.Numbering.{IsAt}

-- the chunk at place 0 has 2 ^ bits slots
pub record SlabView : Type 0 where
  pub bits : ℕ
  pub cells : List ℕ

-- the name at this index
abbrev pub id_at : List ℕ → ℕ → ℕ
id_at names k = slice_index_or names k 0

-- the slot γ is the one of this number: its cell holds a chunk that has it at the number's offset
pub record IsSlot (s : SlabView) (number cell : ℕ) (names : List ℕ) (γ : ℕ) : Type 0 where
  pub place : ℕ
  pub offset : ℕ
  pub inside : place < length s.cells
  pub at : IsAt s.bits number place offset
  pub holds : cell ≡ id_at s.cells place
  pub within : offset < length names
  pub named : γ ≡ id_at names offset

-- a cell of this slab, which nothing but an exchange sets
pub record IsCell {A X : Type 0} (a : A) (h : ℕ) (w : WordView A X) : Type 0 where
  pub from : w.from ≡ a
  pub home : w.home ≡ h
  pub owns : w.owning ≡ true
  pub unset : w.value ≡ None

abbrev pub AreCells : {A X : Type 0} → A → ℕ → List (WordView A X) → Type 0
AreCells a h ws = All (IsCell a h) ws

abbrev pub ids_of : {A X : Type 0} → List (WordView A X) → List ℕ
ids_of ws = map (λ (w : WordView _ _). w.id) ws

-- each cell is one of this slab, and the chunks of all of them have fewer than 2 ^ 32 slots
pub record IsSlab {A X : Type 0} (a : A) (h bits : ℕ) (ws : List (WordView A X)) : Type 0 where
  pub few : length ws + bits ≡ 32
  pub each : AreCells a h ws

-- a slab, and a Vec with nothing in it that has room for as many cells as the slab has
pub record CanEnd {A X Y : Type 0} (a : A) (h bits : ℕ) (ws : List (WordView A X)) (room : List Y) (capacity : ℕ) : Type 0 where
  pub slab : IsSlab a h bits ws
  pub empty : room ≡ []
  pub fits : length ws ≤ capacity

abbrev pub slab_view : {A X : Type 0} → ℕ → List (WordView A X) → SlabView
slab_view bits ws = record { bits = bits; cells = ids_of ws }
