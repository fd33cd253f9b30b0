use Rattle.std.proofs.Common.{arith, ap, ◌∙◌, length, ◌∷◌, []}
use Rattle.table_generations.specs.Buckets.{shown_entries}
use Rattle.table_generations.proofs.Owned.{count_more}
use Rattle.table_generations.proofs.fixed.rehomed.count_set.Goals as goal

pub loop-index-preserved : goal.loop-index-preserved
loop-index-preserved g c =
    let more = count_more c.args.row.now.contents c.loop-index.index (omega arith) in
    let one = c.count_one-count.ensures.counted ∙ ap (λ b. length (shown_entries (b.content ∷ []))) c.at.ensures in
    (omega (arith, more, one), omega arith)
