use mathlib.Core.List.{IsPrefix}
use Rattle.table_numbered.specs.Generations.{IsOf}
use Rattle.table_numbered.proofs.Walked.{HasPassedAll}
use Rattle.table_numbered.proofs.generation.NumberedGeneration.is_in_buckets.Given as goal

abbrev pub invariant-loop-index : goal.invariant-loop-index
invariant-loop-index g l = record {
  of : IsOf g.L.Law.same g.L.Law.hash_of l.self.of l.seen.book l.seen.names l.seen.log;
  longer : IsPrefix l.fn.seen.log l.seen.log;
  passed : HasPassedAll g.L.Law.same g.L.Law.hash_of l.number l.fn.seen.log l.index;
}
