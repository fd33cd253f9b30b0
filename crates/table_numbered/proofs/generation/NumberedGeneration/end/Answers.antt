use Rattle.table_numbered.proofs.Endings.{all_left, leaving_first}
use Rattle.table_numbered.proofs.generation.NumberedGeneration.end.Goals as goal

pub invariant_of-result : goal.invariant_of-result
invariant_of-result g c = let new = c.close_all-count.new.seen in let e = c.close_all-count.ensures in
    rw c.again.ensures (leaving_first g.L.Law.same g.L.Law.hash_of c.args.self.now.of new.book new.names new.log c.args.slab c.close_all-count.result c.requires.slab c.requires.left e.of e.full e.counted)

pub returns-clause-values : goal.returns-clause-values
returns-clause-values g c = let new = c.close_all-count.new.seen in let e = c.close_all-count.ensures in
    rw c.again.ensures (all_left g.L.Law.same g.L.Law.hash_of g.L.Law.lawful c.args.self.now.of.size new.log e.of.2 e.of.3)
