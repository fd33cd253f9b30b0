use Rattle.std.proofs.Common.{◌≡◌, ◌+◌, length, take}
use Rattle.table_generations.specs.Values.{all_owned}
use Rattle.table_shared.proofs.ending.count_earlier.Given as goal

abbrev pub invariant-loop-index : goal.invariant-loop-index
invariant-loop-index g l = l.count ≡ l.others + length (all_owned (take l.index l.generations))
