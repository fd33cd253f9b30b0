use Rattle.std.proofs.Common.{arith}
use base.Growing.{prefix_refl, prefix_trans}
use Rattle.table_numbered.proofs.generation.NumberedGeneration.hint_all.Goals as goal

pub loop-index-init : goal.loop-index-init
loop-index-init g c = record {
  of = c.requires.of;
  longer = prefix_refl c.args.seen.now.log;
}

pub hint_at-requires-clause-inside : goal.hint_at-requires-clause-inside
hint_at-requires-clause-inside g c = omega (arith, c.loop-index-test.true, c.loop-index.auto.index-end, c.buckets-index-end.ensures.size)

pub loop-index-preserved : goal.loop-index-preserved
loop-index-preserved g c = let inv = c.loop-index.invariant in let e = c.hint_at.ensures in record {
  of = e.of;
  longer = prefix_trans c.args.seen.now.log c.loop-index.seen.log c.hint_at.new.seen.log inv.longer e.longer;
}
