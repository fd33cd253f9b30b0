use Rattle.std.proofs.Common.{◌≡◌, length}
use Rattle.table_generations.specs.Values.{all_left, AreCounted}
use Rattle.table_generations.proofs.values.into_iter.IntoIterIterator.next.Given as goal

-- only generations that own nothing more were passed over
abbrev pub invariant-loop-value : goal.invariant-loop-value
invariant-loop-value g l =
    (all_left l.self-inside.values l.self-inside.rest ≡ l.fn.self)
    × AreCounted l.self-inside.closed.id l.self-inside.values l.self-inside.rest l.self-inside.left

abbrev pub decreases-loop-value : goal.decreases-loop-value
decreases-loop-value g l = length l.self-inside.rest
