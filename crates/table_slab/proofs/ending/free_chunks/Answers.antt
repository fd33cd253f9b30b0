use Rattle.table_slab.proofs.Seats.{first_cell, rest_cells}
use Rattle.table_slab.proofs.ending.free_chunks.Goals as goal

pub loop-cell-init : goal.loop-cell-init
loop-cell-init g c = rw c.into_iter-cell-iterator.ensures.into_iter_gives.0 c.requires

pub take_chunk-requires : goal.take_chunk-requires
take_chunk-requires g c = first_cell c.in-Some.ensures.steps.0 c.loop-cell.invariant

pub loop-cell-preserved : goal.loop-cell-preserved
loop-cell-preserved g c = rest_cells c.in-Some.ensures.steps.0 c.loop-cell.invariant
