use Rattle.std.proofs.Common.{refl}
use Rattle.shared_set.proofs.Placing.{inserts_after, done_here}
use Rattle.shared_set.proofs.handle.Handle.insert_or_grow.Goals as goal

pub returns-in-Done-clause-told : goal.returns-in-Done-clause-told
returns-in-Done-clause-told g c = let mid = c.advance.new.self.history in let new = c.insert_here.new.self.history in
    inserts_after g.L.Law.same g.L.Law.hash_of c.in-Done.inserted c.args.value c.args.value c.args.self.now.history mid new refl c.advance.ensures.known.1
    (done_here g.L.Law.same g.L.Law.hash_of c.in-Done.inserted c.args.value mid new c.in-Done.ensures.told)
