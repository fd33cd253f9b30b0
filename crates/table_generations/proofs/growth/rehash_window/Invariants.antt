use Rattle.std.proofs.Common.{◌≡◌, ◌+◌, ◌-◌, ◌≤◌, ℕ, length}
use Rattle.std.specs.Prelude.{min}
use Rattle.std.specs.Fn.{FnReturnsAt}
use Rattle.table_generations.specs.Buckets.{shown_all, shown_entries}
use Rattle.table_generations.specs.Growth.{RehashesOn}
use Rattle.table_generations.specs.Generations.{GenerationView, AllOwnNone, AreOfOneHome}
use Rattle.table_generations.specs.Windows.{AreReadFrom, IsAhead}
use Rattle.table_generations.proofs.growth.rehash_window.Given as goal

-- the entries of the first p buckets are rehashed, and those of the places that are left were read of buckets from p on
pub record IsInWindow {A T : Type 0} (old before built : GenerationView A T) (p : ℕ) (Read Rehashes : ℕ → Type 0) : Type 0 where
  pub home : AreOfOneHome built old
  pub long : length built.contents ≡ length before.contents
  pub few : built.size ≤ p
  pub counted : built.size ≡ length (shown_entries built.contents)
  pub names : AllOwnNone built.contents
  pub are_read : Read p
  pub rehashes : Rehashes p

abbrev pub invariant-loop-place : goal.invariant-loop-place
invariant-loop-place g l =
    (p : ℕ) × IsInWindow l.old l.fn.built l.built p
    (λ p. AreReadFrom l.old.contents (IsAhead l.old.contents g.T.AtomicValue.target (FnReturnsAt g.H.Fn l.hash_fn)) (l.first + min (length l.old.contents - l.first) 64) p (l.found - l.place) l.place l.window)
    (λ p. RehashesOn g.T.AtomicValue.target (FnReturnsAt g.H.Fn l.hash_fn) (shown_all l.old.contents) l.first p l.fn.built.contents l.built.contents)
