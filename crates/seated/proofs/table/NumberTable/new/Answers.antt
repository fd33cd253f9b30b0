use Rattle.std.proofs.Common.{rules}
use Rattle.seated.proofs.Walks.{nothing_owned}
use Rattle.seated.proofs.table.NumberTable.new.Goals as goal

pub returns-clause-table : goal.returns-clause-table
returns-clause-table _ c = (search rules, (search rules, nothing_owned _ _ (search rules)))
