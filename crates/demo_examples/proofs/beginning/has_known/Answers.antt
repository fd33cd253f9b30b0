use Rattle.demo_examples.proofs.Told.{is_contained}
use Rattle.demo_examples.proofs.beginning.has_known.Goals as goal

pub returns : goal.returns
returns g c = record { found = is_contained g.L.Law.same c.contains.result c.args.set.now.known c.args.value.now c.requires.there c.contains.ensures.none }
