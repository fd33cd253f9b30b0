use Rattle.std.proofs.Common.{◌≡◌, ◌-◌, length}
use Rattle.table_held.specs.Walks.{shown_from}
use Rattle.table_held.proofs.raw.iter.HeldIterIterator.next.Given as goal

-- only buckets that show nothing were passed over
abbrev pub invariant-loop-self : goal.invariant-loop-self
invariant-loop-self g l =
    (l.self-inside.current.now.home ≡ l.self-inside.home.now.id)
    × (shown_from l.self-inside.current.now.contents l.self-inside.index ≡ l.fn.self)
    × (l.self-inside.left ≡ length l.fn.self)

abbrev pub decreases-loop-self : goal.decreases-loop-self
decreases-loop-self g l = length l.self-inside.current.now.contents - l.self-inside.index
