use Rattle.table_held.proofs.Settled as settled
use Rattle.table_held.proofs.runs.laws.new_tables_agree.Goals as goal

pub returns : goal.returns
returns g c = record {
  by_list = settled.new_tables_agree _ g.T.AtomicValue.target g.L.Law.same g.L.Law.hash_of g.L.Law.lawful g.B.AloneTable.shows g.C.AloneTable.shows g.met.B.AloneTable.no_entries_is_lawful g.met.C.AloneTable.no_entries_is_lawful _ _ _;
  by_class = settled.new_tables_agree_by_class _ g.T.AtomicValue.target g.L.Law.same g.L.Law.hash_of g.L.Law.lawful g.B.AloneTable.shows g.C.AloneTable.shows g.met.B.AloneTable.no_entries_is_lawful g.met.C.AloneTable.no_entries_is_lawful _ _ _;
}
