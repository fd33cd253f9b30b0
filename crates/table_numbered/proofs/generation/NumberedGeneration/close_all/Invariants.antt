use Rattle.std.proofs.Common.{◌≡◌, length}
use mathlib.Core.List.{IsPrefix}
use Rattle.table_numbered.specs.History.{IsFull}
use Rattle.table_numbered.specs.Generations.{IsOf}
use Rattle.table_numbered.specs.Ending.{values_from}
use Rattle.table_numbered.proofs.generation.NumberedGeneration.close_all.Given as goal

abbrev pub invariant-loop-index : goal.invariant-loop-index
invariant-loop-index g l = record {
  of : IsOf g.L.Law.same g.L.Law.hash_of l.self.of l.seen.book l.seen.names l.seen.log;
  longer : IsPrefix l.fn.seen.log l.seen.log;
  full : IsFull l.index l.seen.log;
  counted : l.count ≡ length (values_from l.seen.log 0 l.index);
}
