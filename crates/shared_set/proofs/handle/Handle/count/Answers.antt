use Rattle.shared_set.proofs.handle.Handle.count.Goals.{then-self, else-self}
use Rattle.shared_set.proofs.handle.Handle.count.Goals as goal

pub grow_if_free-requires-clause-shown : goal.grow_if_free-requires-clause-shown
grow_if_free-requires-clause-shown g c = elim c.if-self.branch [
  | then-self w ↦ rw w.self-inside-is c.self.invariant.shown
  | else-self w ↦ rw w.self-inside-is c.self.invariant.shown
]
