use Rattle.std.proofs.Common.{◌≡◌}
use Rattle.table_core.proofs.CodeRuns.{Passed}
use Rattle.table_core.proofs.generation.MachineGeneration.first_empty.Given as goal

abbrev pub invariant-loop-pass : goal.invariant-loop-pass
invariant-loop-pass g l = record {
  same : l.self ≡ l.initial.self;
  passed : Passed l.initial.self l.hash l.index l._pass;
}
