use Rattle.std.proofs.Common.{◌≡◌, ◌-◌, length, drop}
use Rattle.std.specs.List.{flat_map}
use Rattle.table_shards.proofs.shared.table.into_iter.IntoIterIterator.next.Given as goal

-- only shards of which no value was left were passed
abbrev pub invariant-loop-self : goal.invariant-loop-self
invariant-loop-self g l =
    (flat_map (λ values. values) (drop l.self-inside.first l.self-inside.shards) ≡ l.fn.self)
    × (length l.self-inside.shards ≡ g.row.SHARDS)

abbrev pub decreases-loop-self : goal.decreases-loop-self
decreases-loop-self g l = g.row.SHARDS - l.self-inside.first
