use Rattle.std.proofs.Common.{arith}
use Rattle.table_held.proofs.Found.{counts_as_list}
use Rattle.table_held.proofs.raw.HeldRawTable.len_alone.Goals as goal

pub returns-clause-as_list : goal.returns-clause-as_list
returns-clause-as_list g c = counts_as_list c.args.self.now c.size.result (omega arith) (rw (← c.self.view_is) c.size.ensures.size)
