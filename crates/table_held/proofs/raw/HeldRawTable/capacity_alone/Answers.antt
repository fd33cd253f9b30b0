use Rattle.table_held.proofs.Kept.{doubled}
use Rattle.table_held.proofs.raw.HeldRawTable.capacity_alone.Goals as goal

pub returns-clause-doubled : goal.returns-clause-doubled
returns-clause-doubled g c = rw (c.capacity.ensures, ← c.self.view_is) (doubled _ _ _ _ c.self.invariant.0)
