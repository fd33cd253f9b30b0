use Rattle.std.specs.Int.NonZero.{non_zero_u32_get}
use Rattle.tool_lines.proofs.Counts.{counts_known, counts_new}
use Rattle.tool_lines.proofs.Written.{on_ok, on_both}
use Rattle.tool_lines.proofs.word_counts.WordCounts.count.Goals as goal

pub returns-in-Some-clause-counts : goal.returns-in-Some-clause-counts
returns-in-Some-clause-counts g c = on_ok c.count_again.result _ _
    (λ counted words is. counts_known words c.args.self.now.interner c.count_again.new.self.interner c.args.self.now.counts.items c.count_again.new.self.counts.items c.args.word.now
    (non_zero_u32_get c.in-Some.number) c.in-Some.ensures.finds c.in-Some.ensures.different c.count_again.ensures.interner counted is)
    c.count_again.ensures.counted

pub returns-in-None-clause-counts : goal.returns-in-None-clause-counts
returns-in-None-clause-counts g c = on_ok c.add.result _ _
    (λ added words is. counts_new words c.args.self.now.interner c.add.new.self.interner c.args.self.now.counts.items c.add.new.self.counts.items c.args.word.now
    c.in-None.ensures.finds added.0 added.1 is)
    (on_both c.add.result _ _ c.add.ensures.interner c.add.ensures.counted)
