use Rattle.std.proofs.Common.{rules}
use Rattle.table_held.proofs.Walks.{entries_walk_as_list}
use Rattle.table_held.proofs.raw.HeldRawTable.iter_alone.Goals as goal

pub returns-clause-as_list : goal.returns-clause-as_list
returns-clause-as_list g c = entries_walk_as_list _ _ (search rules)
