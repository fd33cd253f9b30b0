use Rattle.std.proofs.Common.{◌≡◌, ◌∙◌, ℕ, length, refl, ap, arith}
use base.Growing.{prefix_refl, prefix_trans}
use Rattle.table_numbered.specs.Words.{alike, marked}
use Rattle.table_numbered.specs.Ending.{values_from}
use Rattle.table_numbered.proofs.Histories.{full_more}
use Rattle.table_numbered.proofs.Carried.{set_then}
use Rattle.table_numbered.proofs.Endings.{from_few, counts_more, word_counts, low_counts}
use Rattle.table_numbered.proofs.generation.NumberedGeneration.close_all.Goals.{then-word-gt1, else-word-gt1}
use Rattle.table_numbered.proofs.generation.NumberedGeneration.close_all.Goals as goal

pub loop-index-init : goal.loop-index-init
loop-index-init g c = record {
  of = c.requires.of;
  longer = prefix_refl c.args.seen.now.log;
  full = λ p lt. absurd (omega (arith, lt));
  counted = refl;
}

pub overflow_add-count : goal.overflow_add-count
overflow_add-count g c = omega (arith, c.loop-index.invariant.counted, from_few 0 c.loop-index.index c.loop-index.seen.log, c.loop-index.auto.index-end, c.buckets-index-end.ensures.few)

pub close_at-word-requires-clause-inside : goal.close_at-word-requires-clause-inside
close_at-word-requires-clause-inside g c = omega (arith, c.loop-index-test.true, c.loop-index.auto.index-end, c.buckets-index-end.ensures.size)

pub loop-index-preserved : goal.loop-index-preserved
loop-index-preserved g c = let inv = c.loop-index.invariant in let e = c.close_at-word.ensures in let old = c.loop-index.seen.log in let new = c.close_at-word.new.seen.log in let i = c.loop-index.index in
    let more = counts_more g.L.Law.same g.L.Law.hash_of i old new e.longer e.of.3 inv.full in record {
      of = e.of;
      longer = prefix_trans c.args.seen.now.log old new inv.longer e.longer;
      full = full_more i old new inv.full e.longer (set_then (alike g.L.Law.same) (marked g.L.Law.hash_of) new i c.close_at-word.result e.closed e.says);
      counted = elim c.if-word-gt1.branch [
        | then-word-gt1 w ↦
            (let one = word_counts g.L.Law.same g.L.Law.hash_of new i c.close_at-word.result e.of.3 e.says (omega (arith, w.if-word-gt1.true)) in omega (arith, w.count-is, inv.counted, more, one))
        | else-word-gt1 w ↦
            (let none = low_counts g.L.Law.same g.L.Law.hash_of new i c.close_at-word.result e.of.3 e.closed e.says (omega (arith, w.if-word-gt1.false)) in omega (arith, w.count-is, inv.counted, more, none))
      ];
    }

pub returns-clause-full : goal.returns-clause-full
returns-clause-full g c = λ p lt. c.loop-index.invariant.full p (omega (arith, lt, c.loop-index-test.false, c.loop-index.auto.index-end, c.buckets-index-end.ensures.size))

pub returns-clause-counted : goal.returns-clause-counted
returns-clause-counted g c = c.loop-index.invariant.counted ∙ ap (λ (n : ℕ). length (values_from c.loop-index.seen.log 0 n)) (let is : c.loop-index.index ≡ c.args.self.now.of.size = omega (arith, c.loop-index-test.false, c.loop-index.auto.index-end, c.buckets-index-end.ensures.size) in is)
