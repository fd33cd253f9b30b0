use Rattle.std.proofs.Common.{◌∙◌}
use Rattle.demo_examples.proofs.Told.{has_kept, is_found}
use Rattle.demo_examples.proofs.tell.find.Goals as goal

pub returns-clause-found : goal.returns-clause-found
returns-clause-found g c = let known = c.get.new.self.history in
    c.is_some.ensures ∙ is_found g.L.Law.same c.get.result known c.args.value.now
    (has_kept g.L.Law.same c.args.mine.now.history known c.args.value.now c.get.ensures.known.1 c.requires.there) c.get.ensures.finds
