use Rattle.std.specs.Vec.Iter.{into_iter_items}
use Rattle.table_slab.specs.Slabs.{AreCells}
use Rattle.table_slab.proofs.ending.free_chunks.Given as goal

abbrev pub invariant-loop-cell : goal.invariant-loop-cell
invariant-loop-cell g l = AreCells l.alloc l.closed.id (into_iter_items l.cell-iterator)
