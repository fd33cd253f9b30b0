use Rattle.std.proofs.Common.{◌∙◌, ap, sym, subst}
use Rattle.table_slab.specs.Slabs.{SlabView}
use Rattle.shared_set.specs.Known.{SharedView, shared_view, IsChainOver}
use Rattle.shared_set.specs.Ending.{Ends}
use Rattle.shared_set.proofs.set.SharedSet.into_values.Goals as goal

pub ended-requires-clause-over : goal.ended-requires-clause-over
ended-requires-clause-over g c = let parts = c.into_parts-slab in
    subst (λ (s : SlabView). IsChainOver parts.result.1 s) (sym c.end.ensures.slab) parts.ensures.over

pub returns : goal.returns
returns g c = let parts = c.into_parts-slab in
    subst (λ (s : SharedView). Ends g.L.Law.same s c.ended.result) (ap (shared_view parts.result.1) c.end.ensures.slab ∙ sym parts.ensures.view) c.ended.ensures
