use Rattle.std.proofs.Common.{◌≡◌, ◌-◌, length}
use Rattle.std.specs.Fn.{FnReturnsAt}
use Rattle.table_shared.specs.Ahead.{CopiesOn}
use Rattle.table_shared.proofs.growth.Growth.copy_rest.Given as goal

-- entries were copied, each by a step that left the call where it stood
abbrev pub invariant-loop-self : goal.invariant-loop-self
invariant-loop-self g l =
    (l.state ≡ l.initial.state) × (l.self.home ≡ l.initial.self.home) × (l.self.before ≡ l.initial.self.before)
    × (l.self.word ≡ l.initial.self.word) × (l.self.words ≡ l.initial.self.words)
    × CopiesOn g.T.AtomicValue.target (FnReturnsAt g.H.Fn l.hash_fn) l.initial.self l.self

abbrev pub decreases-loop-self : goal.decreases-loop-self
decreases-loop-self g l = length l.self.before - l.self.passed
