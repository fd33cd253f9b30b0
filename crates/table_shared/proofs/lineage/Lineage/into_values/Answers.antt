use Rattle.table_shared.proofs.lineage.Lineage.into_values.Goals as goal

pub hand_out-requires-clause-earlier : goal.hand_out-requires-clause-earlier
hand_out-requires-clause-earlier g c = rw c.close.ensures c.rehome_all.ensures

pub hand_out-requires-clause-later : goal.hand_out-requires-clause-later
hand_out-requires-clause-later g c = rw c.close.ensures c.rehome_shown-later.ensures
