use Rattle.std.proofs.Common.{◌∙◌}
use Rattle.demo_examples.proofs.Found.{found_by_both}
use Rattle.demo_examples.proofs.Handed.{joined}
use Rattle.demo_examples.proofs.accounts.add_work.Goals as goal

pub returns-clause-of : goal.returns-clause-of
returns-clause-of g c = let w = c.args.all.now in let more = c.args.work in record {
  of = c.join.ensures.of ∙ c.requires.all.of;
  found = found_by_both g.L.Law.same w.account.history more.account.history c.join.new.self.history w.found.items more.found.items c.append.new.self.items
      c.in_ok-append.ensures.items c.join.ensures.known c.join.ensures.theirs c.requires.all.found c.requires.more.found;
}

pub returns-clause-moved : goal.returns-clause-moved
returns-clause-moved g c = let w = c.args.all.now in let more = c.args.work in
    joined w.account more.account c.join.new.self w.found.items more.found.items c.append.new.self.items w.refused.items more.refused.items c.append-2.new.self.items
    c.join.ensures.placed c.in_ok-append.ensures.items c.in_ok-append-2.ensures.items
