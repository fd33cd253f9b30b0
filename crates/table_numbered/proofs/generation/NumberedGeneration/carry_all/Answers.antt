use Rattle.std.proofs.Common.{◌≡◌, ◌≢◌, ℕ, ◌<◌, sym, subst, arith}
use mathlib.Core.Logic.{dite}
use native.Mathlib.Decide.{ℕ_discrete}
use base.Growing.{prefix_refl, prefix_trans}
use Rattle.table_numbered.specs.declared.event.Stored.TheVariants.{Entry}
use Rattle.table_numbered.specs.Words.{alike, marked}
use Rattle.table_numbered.specs.Carrying.{IsCarried, IsOwed}
use Rattle.table_numbered.proofs.Histories.{due_on, full_on, full_says}
use Rattle.table_numbered.proofs.Carried.{carried_on, carries_all}
use Rattle.table_numbered.proofs.generation.NumberedGeneration.carry_all.Goals as goal

pub loop-index-init : goal.loop-index-init
loop-index-init g c = record {
  of = c.requires.of;
  longer = prefix_refl c.args.seen.now.log;
  next = c.requires.next;
  fresh = prefix_refl c.args.fresh.now.log;
  carried = λ p lt. absurd (omega (arith, lt));
}

pub carry_bucket-requires-clause-inside : goal.carry_bucket-requires-clause-inside
carry_bucket-requires-clause-inside g c = omega (arith, c.loop-index-test.true, c.loop-index.auto.index-end, c.buckets-index-end.ensures.size)

pub carry_bucket-requires-clause-full : goal.carry_bucket-requires-clause-full
carry_bucket-requires-clause-full g c = full_on c.args.self.now.of.size c.args.seen.now.log c.loop-index.seen.log c.requires.full c.loop-index.invariant.longer

pub carry_bucket-requires-clause-owed : goal.carry_bucket-requires-clause-owed
carry_bucket-requires-clause-owed g c = let inv = c.loop-index.invariant in let m = c.args.next.now.of.size in λ p e there.
    subst (λ due. IsOwed g.L.Law.same m due e) (sym (due_on m c.args.fresh.now.log c.loop-index.fresh.log c.requires.next.2 inv.fresh))
    (c.requires.owed p e (full_says (alike g.L.Law.same) (marked g.L.Law.hash_of) c.args.self.now.of.size p (Entry e) c.args.seen.now.log c.loop-index.seen.log c.requires.full c.requires.of.2 inv.longer inv.of.3 there))

pub loop-index-preserved : goal.loop-index-preserved
loop-index-preserved g c = let inv = c.loop-index.invariant in let e = c.carry_bucket.ensures in let old = c.loop-index.seen.log in let log = c.carry_bucket.new.seen.log in let new = c.loop-index.fresh.log in let fresh = c.carry_bucket.new.fresh.log in let n = c.args.self.now.of.size in record {
  of = e.of;
  longer = prefix_trans c.args.seen.now.log old log inv.longer e.longer;
  next = e.next;
  fresh = prefix_trans c.args.fresh.now.log new fresh inv.fresh e.fresh;
  carried = λ p lt. dite (ℕ_discrete p c.loop-index.index)
      (λ (is : p ≡ c.loop-index.index). subst (λ (q : ℕ). IsCarried log q fresh) (sym is) e.carried)
      (λ (ne : p ≢ c.loop-index.index). let less : p < c.loop-index.index = omega (arith, lt, ne) in
      carried_on (alike g.L.Law.same) (marked g.L.Law.hash_of) old log new fresh n p (omega (arith, less, c.loop-index-test.true, c.loop-index.auto.index-end, c.buckets-index-end.ensures.size))
      (full_on n c.args.seen.now.log old c.requires.full inv.longer) e.longer e.of.3 e.fresh (inv.carried p less));
}

pub returns-clause-carried : goal.returns-clause-carried
returns-clause-carried g c = let inv = c.loop-index.invariant in let n = c.args.self.now.of.size in
    carries_all (alike g.L.Law.same) (marked g.L.Law.hash_of) n c.loop-index.seen.log c.loop-index.fresh.log inv.of.2 inv.of.3
    (λ p lt. inv.carried p (omega (arith, lt, c.loop-index-test.false, c.loop-index.auto.index-end, c.buckets-index-end.ensures.size)))
