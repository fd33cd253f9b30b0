use Rattle.table_held.proofs.Settled as settled
use Rattle.table_held.proofs.runs.laws.replies_agree.Goals as goal

pub returns : goal.returns
returns g c = record {
  by_list = settled.replies_agree _ g.T.AtomicValue.target g.L.Law.same g.L.Law.hash_of g.L.Law.lawful;
  by_class = settled.replies_agree_by_class _ g.T.AtomicValue.target g.L.Law.same g.L.Law.hash_of g.L.Law.lawful;
}
