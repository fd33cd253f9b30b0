use Rattle.table_slab.specs.Endings.{IsOpen}
use Rattle.table_slab.proofs.Ended.{first_holds, rest_holds}
use Rattle.table_slab.proofs.ending.free_cells.Goals as goal

pub free_cell-requires : goal.free_cell-requires
free_cell-requires g c = first_holds (IsOpen c.args.alloc c.args.closed.now.id) c.in-Some.ensures.steps.0 c.loop-cell.invariant

pub loop-cell-preserved : goal.loop-cell-preserved
loop-cell-preserved g c = rest_holds (IsOpen c.args.alloc c.args.closed.now.id) c.in-Some.ensures.steps.0 c.loop-cell.invariant
