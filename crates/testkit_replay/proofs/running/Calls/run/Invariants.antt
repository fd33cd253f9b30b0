use Rattle.testkit_replay.specs.Running.{IsReady}
use Rattle.testkit_replay.proofs.running.Calls.run.Given as goal

abbrev pub invariant-loop-turn : goal.invariant-loop-turn
invariant-loop-turn g l = IsReady (goal.E-IsAlwaysCallable g) (goal.H-IsAlwaysCallable g) (goal.F-IsAlwaysCallable g) g.E.Fn l.self
