use mathlib.Core.List.{IsPrefix}
use Rattle.table_numbered.specs.Words.{mark_of}
use Rattle.table_numbered.specs.Generations.{IsOf}
use Rattle.table_numbered.proofs.Probes.{Goes}
use Rattle.table_numbered.proofs.generation.NumberedGeneration.probe.Given as goal

abbrev pub invariant-loop-tried : goal.invariant-loop-tried
invariant-loop-tried g l = record {
  of : IsOf g.L.Law.same g.L.Law.hash_of l.self.of l.seen.book l.seen.names l.seen.log;
  longer : IsPrefix l.fn.seen.log l.seen.log;
  goes : Goes (g.S.Sought.accepts l.sought) l.self.of.size (mark_of (g.S.Sought.sought_hash l.sought)) l.seen.log l.index l._tried;
}
