use Rattle.table_held.proofs.Again.{later_reflexive, later_transitive}
use Rattle.table_held.proofs.runs.laws.places_stay_good.Goals as goal

pub returns : goal.returns
returns g c = record {
  reflexive = later_reflexive g.B.AloneTable.shows;
  transitive = later_transitive g.B.AloneTable.shows;
}
