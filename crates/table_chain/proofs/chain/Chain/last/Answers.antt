use Rattle.std.proofs.Common.{[], arith}
use Rattle.std.proofs.lemmas.List.{append-nil}
use Rattle.table_chain.specs.declared.event.Stored.TheVariants.{Shown}
use Rattle.table_chain.proofs.Chained.{slot_within, stands_on}
use Rattle.table_chain.proofs.chain.Chain.last.Goals as goal

pub loop-last-init : goal.loop-last-init
loop-last-init g c = let of = c.requires.of in let there = c.requires.there in record {
  of = of;
  longer = ([], append-nil c.args.seen.now.log);
  forth = omega arith;
  inside = slot_within g.F.Follows.begins g.F.Follows.follows c.args.self.now.slots c.args.seen.now.log of.2 of.3 c.args.from there.1.0 (Shown there.0) there.1.1;
  there = there;
}

pub returns-in-None-clause-there : goal.returns-in-None-clause-there
returns-in-None-clause-there g c = let there = c.loop-last.invariant.there in
    (there.0, stands_on g.F.Follows.begins g.F.Follows.follows c.loop-last.seen.log c.look.new.seen.log c.loop-last.last there.0 c.look.ensures.longer there.1)
