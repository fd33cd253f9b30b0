use Rattle.std.proofs.Common.{◌≡◌}
use Rattle.table_shards.specs.Shards.{capped_sum}
use Rattle.table_shards.proofs.shared.table.counts.capped_total.Given as goal

-- the counts so far
abbrev pub invariant-loop-count : goal.invariant-loop-count
invariant-loop-count g l =
    (goal.iterator-loop-count g).can_next l.count-iterator
    × (goal.iterator-loop-count g).is_finite l.count-iterator
    × (l.total ≡ capped_sum (λ count. count) l.yielded)
