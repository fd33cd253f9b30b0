use Rattle.table_slab.proofs.Seats.{same_cell, same_name}
use Rattle.table_slab.proofs.slab.Standing.agree.Goals as goal

pub same_value-requires : goal.same_value-requires
same_value-requires g c = same_name c.requires.2 c.requires.3 (c.same_site.ensures (same_cell c.requires.2 c.requires.3))
