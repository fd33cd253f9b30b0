use Rattle.table_numbered.specs.Walking.{IsTaken}
use Rattle.table_numbered.specs.Hints.{IsHint}
use Rattle.table_numbered.proofs.hints.add.Given as goal

abbrev pub invariant-loop-tried : goal.invariant-loop-tried
invariant-loop-tried g l = record {
  hint : IsHint l.later.book l.hint;
  taken : IsTaken l.later.log l.number;
}
