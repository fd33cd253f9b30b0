use mathlib.Core.List.{IsPrefix}
use Rattle.table_numbered.specs.Words.{mark_of}
use Rattle.table_numbered.specs.History.{due_of}
use Rattle.table_numbered.specs.Generations.{IsKnown}
use Rattle.table_numbered.specs.Carrying.{IsOwed, entry_of}
use Rattle.table_numbered.proofs.Probes.{Goes}
use Rattle.table_numbered.proofs.row.Row.carry.Given as goal

abbrev pub invariant-loop-tried : goal.invariant-loop-tried
invariant-loop-tried g l = record {
  known : IsKnown g.L.Law.same g.L.Law.hash_of l.self.of l.seen.book l.seen.names l.seen.log;
  longer : IsPrefix l.fn.seen.log l.seen.log;
  owed : IsOwed g.L.Law.same l.self.of.size (due_of l.seen.log) (entry_of l.entry);
  goes : Goes (g.L.Law.same l.entry.standing.written.value) l.self.of.size (mark_of (g.L.Law.hash_of l.entry.standing.written.value)) l.seen.log l.index l._tried;
}
