use Rattle.table_sets.proofs.Listed.{lawful_apart}
use Rattle.table_sets.proofs.set.HeldSet.iter.Goals as goal

pub returns-clause-apart : goal.returns-clause-apart
returns-clause-apart g c = rw (← c.self.view_is, ← c.table.ensures.is)
    (lawful_apart g.T.AtomicValue.target g.L.Law.same g.L.Law.hash_of c.table.result.now c.table.ensures.lawful)
