use Rattle.table_chain.proofs.Chained as chained
use Rattle.shared_set.specs.Stages.{Begins, GrowsInto}
use Rattle.shared_set.proofs.set.SharedSet.newest_told.Goals as goal

pub returns-in-None-clause-shown : goal.returns-in-None-clause-shown
returns-in-None-clause-shown g c = let f = c.requires.first in
    (f.0, chained.stands_on (Begins g.L.Law.same g.L.Law.hash_of) (GrowsInto g.L.Law.same g.L.Law.hash_of) c.args.seen.now.log c.look.new.seen.log 0 f.0 c.look.ensures.longer f.1)
