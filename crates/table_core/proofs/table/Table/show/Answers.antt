use Rattle.std.proofs.Common.{rules}
use Rattle.table_core.proofs.table.Table.show.Goals as goal

pub invariant_of-self : goal.invariant_of-self
invariant_of-self g c = search rules

pub returns-in_err-reserve-clause-err : goal.returns-in_err-reserve-clause-err
returns-in_err-reserve-clause-err g c = search rules
