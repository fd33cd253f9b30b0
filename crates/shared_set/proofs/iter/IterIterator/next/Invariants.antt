use Rattle.shared_set.specs.Walks.{PassesNone}
use Rattle.shared_set.proofs.iter.IterIterator.next.Given as goal

abbrev pub invariant-loop-index : goal.invariant-loop-index
invariant-loop-index g l = PassesNone l.fn.self l.self

abbrev pub decreases-loop-index : goal.decreases-loop-index
decreases-loop-index g l = l.self.left
