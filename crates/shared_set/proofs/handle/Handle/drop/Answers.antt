use Rattle.std.proofs.Common.{ap, sym, subst}
use Rattle.table_slab.specs.Slabs.{SlabView}
use Rattle.shared_set.specs.Known.{SharedSetView}
use Rattle.shared_set.specs.Supplies.{IsSupplyOf}
use Rattle.shared_set.proofs.handle.Handle.drop.Goals as goal

pub give_back-requires : goal.give_back-requires
give_back-requires g c = subst (λ (s : SlabView). IsSupplyOf s c.self.inside.supply) (sym (ap (λ (x : SharedSetView g.row.V.Denot). x.of.slab) c.set.view_is)) c.self.invariant.supply
