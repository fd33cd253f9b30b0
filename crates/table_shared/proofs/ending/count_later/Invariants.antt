use Rattle.std.proofs.Common.{◌≡◌, ◌+◌, length, take}
use Rattle.std.specs.Prelude.{map}
use Rattle.table_generations.specs.Values.{all_owned}
use Rattle.table_shared.proofs.ending.count_later.Given as goal

abbrev pub invariant-loop-index : goal.invariant-loop-index
invariant-loop-index g l = l.count ≡ l.others + length (all_owned (map (λ b. b.value) (take l.index l.blocks)))
