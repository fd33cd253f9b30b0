use Rattle.std.proofs.Common.{◌≡◌, length}
use Rattle.table_shared.specs.Settled.{AreSettledBelow}
use Rattle.table_shared.proofs.ending.rehome_all.Given as goal

abbrev pub invariant-loop-index : goal.invariant-loop-index
invariant-loop-index g l =
    (length l.generations.items ≡ length l.fn.generations.items)
    × AreSettledBelow l.home.id l.closed.id l.index l.generations.items
