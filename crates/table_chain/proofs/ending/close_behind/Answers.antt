use Rattle.std.proofs.Common.{inr, refl, ◌∙◌, arith}
use base.Growing.{prefix_trans}
use Rattle.table_chain.proofs.Chained.{stands_on, values_push}
use Rattle.table_chain.proofs.ending.close_behind.Goals as goal

pub returns-then-close-clause-whole : goal.returns-then-close-clause-whole
returns-then-close-clause-whole g c = let old = c.loop-slot.seen.log in let new = c.close.new.seen.log in record {
  within = omega (arith, c.loop-slot-test.true);
  values = λ p lt. let v = c.loop-slot.invariant.values p lt in (v.0, stands_on g.F.Follows.begins g.F.Follows.follows old new p v.0 c.close.ensures.longer v.1);
  last = inr (c.if-close.ensures.ended refl);
}

pub loop-slot-preserved : goal.loop-slot-preserved
loop-slot-preserved g c = let inv = c.loop-slot.invariant in let old = c.loop-slot.seen.log in let new = c.close.new.seen.log in let e = c.close.ensures in record {
  same = (e.same.0 ∙ inv.same.0, e.same.1 ∙ inv.same.1);
  longer = prefix_trans _ old new inv.longer e.longer;
  reached = e.reached;
  values = values_push g.F.Follows.begins g.F.Follows.follows old new c.loop-slot.slot e.longer inv.values (c.if-close.ensures.value refl);
}
