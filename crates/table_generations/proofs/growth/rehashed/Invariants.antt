use Rattle.std.proofs.Common.{◌≡◌, ◌≤◌, ◌-◌, ℕ, length, take}
use Rattle.std.specs.Fn.{FnReturnsAt}
use Rattle.table_generations.specs.Buckets.{shown_all, shown_entries}
use Rattle.table_generations.specs.Growth.{IsRehashed}
use Rattle.table_generations.specs.Generations.{GenerationView, AllOwnNone, AreOfOneHome}
use Rattle.table_generations.proofs.growth.rehashed.Given as goal

-- the entries of the first buckets, so many, are rehashed
pub record IsUnderWay {A T U : Type 0} (target : T → U) (rehash : U → ℕ → Type 0) (old built : GenerationView A T) (capacity first : ℕ) : Type 0 where
  pub within : first ≤ length old.contents
  pub home : AreOfOneHome built old
  pub long : length built.contents ≡ capacity
  pub few : built.size ≤ first
  pub counted : built.size ≡ length (shown_entries built.contents)
  pub names : AllOwnNone built.contents
  pub rehashed : IsRehashed target rehash (take first (shown_all old.contents)) (shown_all built.contents)

abbrev pub invariant-loop-first : goal.invariant-loop-first
invariant-loop-first g l =
    IsUnderWay g.T.AtomicValue.target (FnReturnsAt g.H.Fn l.hash_fn) l.old l.built l.capacity l.first

abbrev pub decreases-loop-first : goal.decreases-loop-first
decreases-loop-first g l = length l.old.contents - l.first
