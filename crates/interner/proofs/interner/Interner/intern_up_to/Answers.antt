use Rattle.interner.proofs.Numbers.{different_push}
use Rattle.interner.proofs.interner.Interner.intern_up_to.Goals as goal
use Rattle.interner.proofs.interner.Interner.intern_up_to.Goals.{in-Ok-add, in-Err}

pub returns-clause-different : goal.returns-clause-different
returns-clause-different g c = elim c.match-add.branch [
  | in-Ok-add w ↦ rw (w.in-Ok-add.ensures.added, c.reserve_one.ensures) (different_push c.self.inside.texts _ c.number_by_hash.ensures.different (rw c.in-Ok.ensures.ok c.in_default.ensures.finds))
  | in-Err w ↦ rw (w.in-Err.ensures.unchanged, c.reserve_one.ensures) c.number_by_hash.ensures.different
]
