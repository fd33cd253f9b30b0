use Rattle.std.proofs.Common.{◌≡◌, ◌≢◌}
use Rattle.table_core.specs.declared.call.Phase.TheVariants.{Done}
use Rattle.table_shared.specs.Carried.{Asks}
use Rattle.table_shared.proofs.insert.between.Inserting.go_on.Given as goal

-- the call isn't over, and asks what it asked
abbrev pub invariant-loop : goal.invariant-loop
invariant-loop g l =
    (l.call.state.phase ≢ Done) × (l.call.asking ≡ l.fn.self.asking)
    × (Asks (goal.E-IsAlwaysCallable g) (goal.H-IsAlwaysCallable g) g.T.AtomicValue.target g.E.Fn l.call.asking l.call.carried)
