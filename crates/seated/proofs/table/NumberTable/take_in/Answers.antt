use Rattle.std.proofs.Common.{rules}
use Rattle.seated.proofs.Keeps.{joins}
use Rattle.seated.proofs.table.NumberTable.take_in.Goals as goal

pub join_seat-requires : goal.join_seat-requires
join_seat-requires _ c = (search rules, search rules, search rules, search rules, joins _ _ _ _ _)
