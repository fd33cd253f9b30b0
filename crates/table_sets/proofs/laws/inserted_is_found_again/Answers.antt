use Rattle.table_sets.proofs.Again.{inserts_later, finds_again}
use Rattle.table_sets.proofs.laws.inserted_is_found_again.Goals as goal

pub returns : goal.returns
returns g c = record {
  later = inserts_later g.T.AtomicValue.target g.L.Law.same;
  found = finds_again g.T.AtomicValue.target g.L.Law.same g.L.Law.hash_of g.L.Law.lawful;
}
