use Rattle.std.proofs.Common.{◌≡◌, ◌≤◌, ℕ, List, length, vec_capacity}
use Rattle.table_cell.specs.Words.{WordView}
use Rattle.table_slab.specs.Slabs.{AreCells}
use Rattle.table_slab.proofs.slab.vacant.Given as goal

-- so many cells are made, and the rest of the capacity fits
pub record AreMade {A X : Type 0} (home : ℕ) (alloc : A) (count made : ℕ) (ws : List (WordView A X)) (fit : ℕ) : Type 0 where
  pub long : length ws ≡ made
  pub cells : AreCells alloc home ws
  pub room : count ≤ fit

abbrev pub invariant-loop-made : goal.invariant-loop-made
invariant-loop-made g l = AreMade l.home.id l.alloc l.count l._made l.cells.items (vec_capacity l.cells)
