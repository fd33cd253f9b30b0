use Rattle.std.proofs.Common.{◌≡◌, ◌+◌, ◌≤◌, length}
use Rattle.std.specs.Fn.{FnReturnsAt}
use Rattle.table_generations.specs.Windows.{AreReadFrom}
use Rattle.table_shared.specs.Ahead.{Holds}
use Rattle.table_shared.proofs.growth.ahead.read_window.Given as goal

-- what was read of the buckets so far takes the first places of the window
abbrev pub invariant-loop-ahead : goal.invariant-loop-ahead
invariant-loop-ahead g l =
    (length l.window ≡ 64) × (l.found ≤ l.ahead)
    × AreReadFrom l.from.contents (Holds g.T.AtomicValue.target (FnReturnsAt g.H.Fn l.hash_fn) l.from) (l.first + l.ahead) l.first l.found 0 l.window
