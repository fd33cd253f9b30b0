use Rattle.std.proofs.Common.{◌≡◌, ◌≤◌, length}
use Rattle.table_shared.specs.Walks.{last_shown}
use Rattle.table_shared.proofs.iter.IterIterator.next.Given as goal

-- only buckets that showed nothing were passed over
abbrev pub invariant-loop-self : goal.invariant-loop-self
invariant-loop-self g l =
    (l.self-inside.home ≡ l.initial.self-inside.home) ×
    (l.self-inside.generation ≡ l.initial.self-inside.generation) ×
    (l.self-inside.left ≤ length l.generation.contents) ×
    (l.self-inside.left ≤ l.fn.self.left) ×
    (last_shown l.generation.contents l.self-inside.left ≡ l.fn.self.alone)

abbrev pub decreases-loop-self : goal.decreases-loop-self
decreases-loop-self g l = l.self-inside.left
