use Rattle.table_held.proofs.Again.{found_again}
use Rattle.table_held.proofs.runs.laws.inserted_is_found_again.Goals as goal

pub returns : goal.returns
returns g c = found_again g.B.AloneTable.shows _ _ _ g.L.Law.lawful c.entries_are_apart.ensures _ _ _
