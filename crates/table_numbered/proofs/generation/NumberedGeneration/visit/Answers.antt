use Rattle.table_numbered.proofs.Walked.{only_at}
use Rattle.table_numbered.proofs.generation.NumberedGeneration.visit.Goals as goal

pub returns-clause-only : goal.returns-clause-only
returns-clause-only g c = let e = c.entry_at.ensures in
    only_at g.L.Law.same g.L.Law.hash_of g.L.Law.lawful c.number_at.new.seen.log c.args.index c.in_ok-number.number c.number_at.ensures.of.3 e.one (c.entry_at.result.now, e.stands)
