use Rattle.std.proofs.Common.{◌≡◌, ◌≤◌, ◌-◌, ℕ, List, length}
use Rattle.std.specs.Box.{box_allocator}
use Rattle.table_generations.specs.Buckets.{Content}
use Rattle.table_shared.specs.Growths.{IsUnderWay, buckets_before}
use Rattle.table_generations.specs.Windows.{NoneShown}
use Rattle.table_shared.proofs.growth.Growth.copy_next.Given as goal

-- the buckets from i on and before k are passed, and none of them was set alone
pub record ArePassed {T : Type 0} (before : List (Content T)) (i k : ℕ) : Type 0 where
  pub on : i ≤ k
  pub skipped : NoneShown before i k

abbrev pub invariant-loop-self : goal.invariant-loop-self
invariant-loop-self g l =
    ((l.self-inside.home ≡ l.initial.self-inside.home) × (l.self-inside.from ≡ l.initial.self-inside.from) × (l.self-inside.built ≡ l.initial.self-inside.built)
    × (l.self-inside.slot.id ≡ l.initial.self-inside.slot.id) × (l.self-inside.words ≡ l.initial.self-inside.words))
    × ArePassed (buckets_before l.initial.self-inside.from) l.initial.self-inside.copied l.self-inside.copied
    × IsUnderWay l.self-inside.home.now.id l.self-inside.from l.self-inside.copied l.self-inside.built l.self-inside.slot.from l.self-inside.slot (box_allocator l.self-inside.block)

abbrev pub decreases-loop-self : goal.decreases-loop-self
decreases-loop-self g l = length l.from.contents - l.self-inside.copied
