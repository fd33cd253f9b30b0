use Rattle.table_shared.specs.Stepped.{MayStep}
use Rattle.test_programs.proofs.tests.workers.advance_times.Given as goal

abbrev pub invariant-loop : goal.invariant-loop
invariant-loop g l = MayStep (goal.E-IsAlwaysCallable g) (goal.H-IsAlwaysCallable g) (λ b. b.value) g.E.Fn l.call
