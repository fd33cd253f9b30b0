use Rattle.std.proofs.Common.{◌+◌, ◌≤◌, length, vec_capacity}
use Rattle.std.specs.Prelude.{All}
use Rattle.std.specs.Vec.Iter.{into_iter_items}
use Rattle.table_shared.specs.Lineages.{IsOpen}
use Rattle.table_shared.specs.Settled.{IsSettled}
use Rattle.table_shared.proofs.ending.rehome_later.Given as goal

abbrev pub invariant-loop-word : goal.invariant-loop-word
invariant-loop-word g l =
    All (IsOpen l.closed.id l.alloc) (into_iter_items l.word-iterator)
    × (length l.room.items + length (into_iter_items l.word-iterator) ≤ vec_capacity l.room)
    × All (λ b. IsSettled l.home.id b.value) l.room.items
