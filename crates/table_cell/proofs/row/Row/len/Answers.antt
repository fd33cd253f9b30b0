use Rattle.std.proofs.Common.{arith}
use Rattle.table_cell.proofs.Rows.{length-marks}
use Rattle.table_cell.proofs.row.Row.len.Goals as goal

pub returns : goal.returns
returns g c = let long = length-marks c.self.inside.marks.items c.self.inside.words.items c.self.invariant.marked in rw (← c.self.view_is) (omega arith)
