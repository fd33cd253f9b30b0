use Rattle.std.proofs.Common.{◌≡◌, ◌+◌, ◌-◌, ℕ}
use Rattle.std.specs.Prelude.{IfSome}
use Rattle.std.specs.Box.{box_allocator}
use Rattle.std.specs.Fn.{FnReturnsAt}
use Rattle.std.specs.Option.{option_map}
use Rattle.table_generations.specs.Windows.{AreReadFrom}
use Rattle.table_shared.specs.Ahead.{Holds, CopiesOn}
use Rattle.table_shared.specs.Growths.{IsUnderWay, growth_of}
use Rattle.table_shared.specs.Lineages.{names_of, words_of}
use Rattle.table_shared.proofs.growth.Growth.copy_window.Given as goal

-- p buckets are passed: the entries of the places before this one are copied, each by a step that left the call where it stood, and
-- those of the others were read of buckets from p on
pub record IsInWindow (p : ℕ) (Home From State Word : Type 0) (Read Copied UnderWay : ℕ → Type 0) : Type 0 where
  pub home_is : Home
  pub from_is : From
  pub state_is : State
  pub word_is : Word
  pub are_read : Read p
  pub copied : Copied p
  pub under_way : UnderWay p

abbrev pub invariant-loop-place : goal.invariant-loop-place
invariant-loop-place g l =
    (p : ℕ) × IsInWindow p (l.self-inside.home ≡ l.initial.self-inside.home)
    (l.self-inside.from ≡ l.initial.self-inside.from)
    (l.state ≡ l.fn.state)
    ((l.self-inside.slot.id ≡ l.initial.self-inside.slot.id) × (l.self-inside.words ≡ l.initial.self-inside.words))
    (λ p. IfSome l.initial.self-inside.from (λ from. AreReadFrom from.now.contents (Holds g.T.AtomicValue.target (FnReturnsAt g.H.Fn l.hash_fn) from.now) (l.first + l.count) p (l.found - l.place) l.place l.window))
    (λ p. CopiesOn g.T.AtomicValue.target (FnReturnsAt g.H.Fn l.hash_fn) l.fn.self (growth_of l.self-inside.home.now.id l.self-inside.from p l.self-inside.built l.self-inside.slot.id (words_of l.self-inside.words.of (option_map (λ l. names_of l.words.items) l.self-inside.words.known))))
    (λ p. IsUnderWay l.self-inside.home.now.id l.self-inside.from p l.self-inside.built l.self-inside.slot.from l.self-inside.slot (box_allocator l.self-inside.block))
