use Rattle.table_held.proofs.runs.laws.no_entries_is_lawful.Goals as goal

pub returns : goal.returns
returns g c = g.met.B.AloneTable.no_entries_is_lawful
