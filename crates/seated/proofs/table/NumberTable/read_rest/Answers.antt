use Rattle.std.proofs.Common.{rules, refl, sym, ap, ◌∙◌}
use Rattle.seated.specs.Views.{unchanged}
use Rattle.seated.proofs.Keeps.{reads, unchanged_mild}
use Rattle.seated.proofs.Walks.{reads_keep, learns_more}
use Rattle.seated.specs.Steps.{SeatState}
use Rattle.seated.proofs.table.NumberTable.read_rest.Goals as goal

pub load-requires : goal.load-requires
load-requires _ c = let so = c.loop-bucket.invariant in (
  search rules,
  search rules,
  reads _ _ _ _ _ unchanged (so.2.size ∙ (c.requires.size ∙ (ap (λ t. t.words) c.requires.table ∙ sym c.args.self.now.key))) (search rules) unchanged_mild,
)

pub loop-bucket-preserved : goal.loop-bucket-preserved
loop-bucket-preserved _ c = let so = c.loop-bucket.invariant in (
  c.load.ensures.0 ∙ so.0,
  reads_keep (λ (m : SeatState). m.1) unchanged 0 _ _ _ _ (λ x. refl) c.load.ensures.2 ∙ so.1,
  learns_more _ 0 _ _ _ _ so.2 c.load.ensures.2,
)
