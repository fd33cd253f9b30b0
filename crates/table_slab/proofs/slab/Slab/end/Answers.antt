use Rattle.std.proofs.Common.{ℕ, List, ap, ◌∙◌}
use Rattle.table_slab.specs.Slabs.{SlabView}
use Rattle.table_slab.proofs.Ended.{shared_ending, shared_names, all_left}
use Rattle.table_slab.proofs.slab.Slab.end.Goals as goal

abbrev the_slab : ℕ → List ℕ → SlabView
the_slab bits ns = record { bits = bits; cells = ns }

pub invariant_of-result : goal.invariant_of-result
invariant_of-result g c = rw (c.all_shared.ensures, c.close.ensures) (shared_ending g.row.T.Denot g.row.A.Denot c.self.invariant.slab)

pub returns-clause-slab : goal.returns-clause-slab
returns-clause-slab g c = rw c.all_shared.ensures (ap (λ (ns : List ℕ). the_slab c.self.inside.bits ns) (shared_names g.row.T.Denot g.row.A.Denot c.self.inside.cells.items) ∙ c.self.view_is)

pub returns-clause-left : goal.returns-clause-left
returns-clause-left g c = rw c.all_shared.ensures (λ number. all_left g.row.T.Denot g.row.A.Denot c.self.inside.bits number c.self.inside.cells.items)
