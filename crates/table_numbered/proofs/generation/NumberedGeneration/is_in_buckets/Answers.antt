use Rattle.std.proofs.Common.{arith}
use base.Growing.{prefix_trans}
use Rattle.table_numbered.proofs.Walked.{passed_next, not_taken}
use Rattle.table_numbered.proofs.generation.NumberedGeneration.is_in_buckets.Goals as goal

pub loop-index-preserved : goal.loop-index-preserved
loop-index-preserved g c = let i = c.loop-index.invariant in let e = c.has_at.ensures in let on = prefix_trans c.args.seen.now.log c.loop-index.seen.log c.has_at.new.seen.log i.longer e.longer in record {
  of = e.of;
  longer = on;
  passed = passed_next g.L.Law.same g.L.Law.hash_of c.args.number c.loop-index.index c.args.seen.now.log c.has_at.new.seen.log on i.passed (e.other c.if-has_at.false);
}

pub returns-clause-none : goal.returns-clause-none
returns-clause-none g c not_met = let i = c.loop-index.invariant in let n = c.args.self.now.of.size in
    not_taken g.L.Law.same g.L.Law.hash_of n c.args.number c.args.seen.now.log c.requires.of.2 c.requires.of.3
    (λ p lt. i.passed p (omega (arith, lt, c.loop-index-test.false, c.buckets-index-end.ensures.size)))
