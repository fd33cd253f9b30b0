use Rattle.std.proofs.Common.{sym, subst}
use Rattle.table_numbered.specs.Generations.{IsOf}
use Rattle.shared_set.proofs.Keeping.{at_shown}
use Rattle.shared_set.proofs.set.SharedSet.build.Goals as goal

pub next_of-requires-clause-slab : goal.next_of-requires-clause-slab
next_of-requires-clause-slab g c = let k = c.args.cursor.now in
    (at_shown g.L.Law.same g.L.Law.hash_of c.args.self.now.of k.slot k.stages.book k.stages.names k.stages.log k.entries.book k.entries.names k.entries.log c.args.stage.now c.requires.shown c.requires.at).0

pub next_of-requires-clause-of : goal.next_of-requires-clause-of
next_of-requires-clause-of g c = let k = c.args.cursor.now in
    subst (λ x. IsOf g.L.Law.same g.L.Law.hash_of c.args.stage.now.of.of x.book x.names x.log) (sym c.again.ensures)
    (at_shown g.L.Law.same g.L.Law.hash_of c.args.self.now.of k.slot k.stages.book k.stages.names k.stages.log k.entries.book k.entries.names k.entries.log c.args.stage.now c.requires.shown c.requires.at).1
