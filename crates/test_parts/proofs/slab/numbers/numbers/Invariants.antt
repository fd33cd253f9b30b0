use Rattle.table_slab.specs.Runs.{IsRunOf}
use Rattle.test_parts.proofs.slab.numbers.numbers.Given as goal

abbrev pub invariant-loop-taken : goal.invariant-loop-taken
invariant-loop-taken l = IsRunOf l.slab l.run
