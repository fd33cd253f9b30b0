use Rattle.std.proofs.Common.{◌≡◌, arith}
use Rattle.table_cell.proofs.Rows.{marked-vacant, contents-vacant}
use Rattle.table_cell.proofs.row.Row.vacant.Goals as goal

pub invariant_of-result : goal.invariant_of-result
invariant_of-result g c = record {
  marked = rw c.loop-made.invariant.marks (marked-vacant c.loop-made._made c.loop-made.words.items c.loop-made.invariant.long c.loop-made.invariant.vacant);
  lies = rw c.new-2.ensures.1 c.loop-made.invariant.lies;
}

pub returns-clause-vacant : goal.returns-clause-vacant
returns-clause-vacant g c =
    let all : c.loop-made._made ≡ c.args.capacity = omega arith in
    rw (c.loop-made.invariant.marks, ← all) (contents-vacant c.loop-made._made c.loop-made.words.items c.loop-made.invariant.long)
