use Rattle.demo_examples.proofs.Told.{has_placed}
use Rattle.demo_examples.proofs.tell.put.Goals as goal

pub returns-in-Placed-clause-there : goal.returns-in-Placed-clause-there
returns-in-Placed-clause-there g c =
    has_placed g.L.Law.same c.in-Placed.field-0 c.args.value c.args.mine.now.history c.insert.new.self.history (g.L.Law.lawful.reflexive c.args.value) c.in-Placed.ensures.told.1

pub returns-in-Found-clause-there : goal.returns-in-Found-clause-there
returns-in-Found-clause-there g c = (c.in-Found.field-0, c.in-Found.field-1.now, c.in-Found.ensures.told.1)
