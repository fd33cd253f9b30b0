use Rattle.std.proofs.Common.{◌<◌, ℕ, sym, ◌∙◌, ap, subst, arith, inl}
use base.Growing.{prefix_refl, prefix_trans}
use Rattle.table_numbered.specs.Words.{mark_of, alike, marked}
use Rattle.table_numbered.proofs.Histories.{untouched_free, closed_free}
use Rattle.table_numbered.proofs.Probes.{goes_first, goes_on, goes_vacant, goes_closed, goes_none, goes_round}
use Rattle.table_numbered.proofs.generation.NumberedGeneration.probe.Goals as goal

pub loop-tried-init : goal.loop-tried-init
loop-tried-init g c = record {
  of = c.requires.of;
  longer = prefix_refl c.args.seen.now.log;
  goes = goes_first c.buckets-count.ensures.size (c.mark_of_hash-mark.ensures.mark ∙ ap mark_of c.hash.ensures) c.first_bucket-index.ensures.within c.first_bucket-index.ensures.first;
}

pub meet-requires-clause-inside : goal.meet-requires-clause-inside
meet-requires-clause-inside g c = c.loop-tried.invariant.goes.inside

pub returns-in-Vacant-clause-finds : goal.returns-in-Vacant-clause-finds
returns-in-Vacant-clause-finds g c = let of = c.meet.ensures.of in let new = c.meet.new.seen.log in
    goes_none g.L.Law.same g.L.Law.hash_of (λ v is. ap mark_of (g.met.S.Sought.agrees c.args.sought.now v is)) new c.loop-tried.invariant.goes c.meet.ensures.longer of.2 of.3 (untouched_free new c.loop-tried.index c.in-Vacant.ensures.meets)

pub returns-in-Vacant-clause-ends : goal.returns-in-Vacant-clause-ends
returns-in-Vacant-clause-ends g c = goes_vacant c.loop-tried.invariant.goes c.meet.new.seen.log c.meet.ensures.longer (subst (λ (m : ℕ). c.loop-tried._tried < m) c.buckets-count.ensures.size c.loop-tried-test.true) c.in-Vacant.ensures.meets

pub returns-in-Closed-clause-finds : goal.returns-in-Closed-clause-finds
returns-in-Closed-clause-finds g c = let of = c.meet.ensures.of in let new = c.meet.new.seen.log in
    goes_none g.L.Law.same g.L.Law.hash_of (λ v is. ap mark_of (g.met.S.Sought.agrees c.args.sought.now v is)) new c.loop-tried.invariant.goes c.meet.ensures.longer of.2 of.3
    (closed_free (alike g.L.Law.same) (marked g.L.Law.hash_of) new c.loop-tried.index of.3 c.in-Closed.ensures.meets)

pub returns-in-Closed-clause-ends : goal.returns-in-Closed-clause-ends
returns-in-Closed-clause-ends g c = goes_closed c.loop-tried.invariant.goes c.meet.new.seen.log c.meet.ensures.longer c.in-Closed.ensures.meets

pub next_bucket-index-requires-clause-within : goal.next_bucket-index-requires-clause-within
next_bucket-index-requires-clause-within g c = subst (λ (m : ℕ). c.loop-tried.index < m) (sym c.buckets-count.ensures.size) c.loop-tried.invariant.goes.inside

pub loop-tried-preserved : goal.loop-tried-preserved
loop-tried-preserved g c = let met = c.in-Differs.ensures.meets in record {
  of = c.meet.ensures.of;
  longer = prefix_trans c.args.seen.now.log c.loop-tried.seen.log c.meet.new.seen.log c.loop-tried.invariant.longer c.meet.ensures.longer;
  goes = goes_on c.meet.new.seen.log met.0 c.loop-tried.invariant.goes c.meet.ensures.longer met.1 met.2 c.buckets-count.ensures.size c.next_bucket-index.ensures.within c.next_bucket-index.ensures.next;
}

pub returns-clause-finds : goal.returns-clause-finds
returns-clause-finds g c = let of = c.loop-tried.invariant.of in
    goes_round g.L.Law.same g.L.Law.hash_of (λ v is. ap mark_of (g.met.S.Sought.agrees c.args.sought.now v is)) c.loop-tried.invariant.goes
    (omega (arith, c.loop-tried-test.false, c.loop-tried.auto._tried-end, c.buckets-count.ensures.size)) of.2 of.3

pub returns-clause-ends : goal.returns-clause-ends
returns-clause-ends g c = (c.loop-tried._tried, c.loop-tried.invariant.goes.passed, inl (omega (arith, c.loop-tried-test.false, c.loop-tried.auto._tried-end, c.buckets-count.ensures.size)))
