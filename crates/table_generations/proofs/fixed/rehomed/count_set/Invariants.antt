use Rattle.std.proofs.Common.{◌≡◌, ◌≤◌, length, take}
use Rattle.table_generations.specs.Buckets.{shown_entries}
use Rattle.table_generations.proofs.fixed.rehomed.count_set.Given as goal

abbrev pub invariant-loop-index : goal.invariant-loop-index
invariant-loop-index g l = (l.count ≡ length (shown_entries (take l.index l.row.contents))) × (l.count ≤ l.index)
