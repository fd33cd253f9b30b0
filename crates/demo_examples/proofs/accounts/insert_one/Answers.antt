use Rattle.std.proofs.Common.{◌++◌, ◌∙◌}
use Rattle.shared_set.specs.Accounts.{placed_values}
use Rattle.demo_examples.proofs.Found.{found_on, found_more}
use Rattle.demo_examples.proofs.Handed.{into_account, to_found, to_refused}
use Rattle.demo_examples.proofs.accounts.insert_one.Goals as goal

pub returns-in-Placed-clause-of : goal.returns-in-Placed-clause-of
returns-in-Placed-clause-of g c = let w = c.args.work.now in record {
  of = c.add.ensures.of ∙ c.requires.of.of;
  found = found_on g.L.Law.same w.account.history c.add.new.self.history w.found.items c.add.ensures.known c.requires.of.found;
}

pub returns-in-Placed-clause-moved : goal.returns-in-Placed-clause-moved
returns-in-Placed-clause-moved g c = let w = c.args.work.now in let r = c.in-Placed.receipt in
    into_account w.account c.add.new.self r.number c.args.value r.value (w.found.items ++ w.refused.items) c.add.ensures.placed (c.in-Placed.ensures.receipt.2 ∙ c.in-Placed.ensures.told.0)

pub returns-in-Found-clause-of : goal.returns-in-Found-clause-of
returns-in-Found-clause-of g c = let w = c.args.work.now in let told = c.in-Found.ensures.told in record {
  of = c.learn.ensures.of ∙ c.requires.of.of;
  found = found_more g.L.Law.same w.account.history c.learn.new.self.history w.found.items c.push_reserved.new.self.items c.args.value c.in-Found.found c.push_reserved.ensures.items told.0 c.learn.ensures.known
      (told.1.0, c.learn.ensures.theirs _ told.1.1) c.requires.of.found;
}

pub returns-in-Found-clause-moved : goal.returns-in-Found-clause-moved
returns-in-Found-clause-moved g c = let w = c.args.work.now in
    to_found w.account c.learn.new.self w.found.items w.refused.items c.push_reserved.new.self.items c.args.value c.in-Found.found c.learn.ensures.placed c.push_reserved.ensures.items c.in-Found.ensures.told.0

pub returns-in-Refused-clause-moved : goal.returns-in-Refused-clause-moved
returns-in-Refused-clause-moved g c = let w = c.args.work.now in
    to_refused (placed_values w.account) w.found.items w.refused.items c.push_reserved-in-Refused.new.self.items c.args.value c.in-Refused.refused c.push_reserved-in-Refused.ensures.items c.in-Refused.ensures.told.0
