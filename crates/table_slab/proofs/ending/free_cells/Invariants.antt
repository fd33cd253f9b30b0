use Rattle.std.specs.Prelude.{All}
use Rattle.std.specs.Vec.Iter.{into_iter_items}
use Rattle.table_slab.specs.Endings.{IsOpen}
use Rattle.table_slab.proofs.ending.free_cells.Given as goal

abbrev pub invariant-loop-cell : goal.invariant-loop-cell
invariant-loop-cell g l = All (IsOpen l.alloc l.closed.id) (into_iter_items l.cell-iterator)
