use Rattle.std.proofs.Common.{ℕ, sym, subst}
use Rattle.table_slab.specs.Held.{IsRightTo}
use Rattle.table_slab.proofs.Seats.{same_cell, same_name}
use Rattle.table_slab.proofs.slab.Right.apart.Goals as goal

pub returns-clause-apart : goal.returns-clause-apart
returns-clause-apart g c = λ s m n a b same. let b' = subst (λ (k : ℕ). IsRightTo s k c.args.other.now) (sym same) b in c.rooms_apart.ensures.2 (same_name a b' (c.same_site.ensures (same_cell a b')))
