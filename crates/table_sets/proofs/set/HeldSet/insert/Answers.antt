use Rattle.table_sets.proofs.Listed.{lawful_apart}
use Rattle.table_sets.proofs.set.HeldSet.insert.Goals as goal

pub returns-clause-apart : goal.returns-clause-apart
returns-clause-apart g c =
    lawful_apart g.T.AtomicValue.target g.L.Law.same g.L.Law.hash_of c.place.new.self c.place.ensures.lawful
