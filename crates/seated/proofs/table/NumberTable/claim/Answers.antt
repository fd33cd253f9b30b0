use Rattle.std.proofs.Common.{rules, sym, ap, ◌∙◌, subst}
use Rattle.seated.specs.declared.seat.View.{View}
use Rattle.seated.specs.Steps.{IsNext}
use Rattle.seated.specs.Views.{unchanged}
use Rattle.seated.proofs.Keeps.{reads, claims, unchanged_mild}
use Rattle.seated.proofs.Probes.{next_inside}
use Rattle.seated.proofs.table.NumberTable.claim.Goals as goal

pub load-found-requires : goal.load-found-requires
load-found-requires _ c = let size = c.requires.size ∙ (ap (λ t. t.words) c.requires.table ∙ sym c.args.self.now.key) in (
  search rules,
  search rules,
  reads _ _ _ _ _ unchanged size (next_inside _ c.args.seat.now.inner.me.0 _ _ size c.requires.next.1) unchanged_mild,
)

pub compare_exchange-requires : goal.compare_exchange-requires
compare_exchange-requires _ c = let size = c.requires.size ∙ (ap (λ t. t.words) c.requires.table ∙ sym c.args.self.now.key) in let same = ap (λ m. m.0) (c.load-found.ensures.2.1 c.if-found-ne0.false) in (
  search rules,
  search rules,
  claims _ _ _ _ _ _ (ap (λ (v : View). v.size) same ∙ size) c.requires.next.0 (subst (λ (v : View). IsNext v c.args.x c.args.bucket) (sym same) c.requires.next.1),
)
