use mathlib.Core.List.{IsPrefix}
use Rattle.table_numbered.specs.Words.{mark_of}
use Rattle.table_numbered.specs.Generations.{IsOf, IsComing}
use Rattle.table_numbered.proofs.Probes.{Goes}
use Rattle.table_numbered.proofs.generation.NumberedGeneration.place.Given as goal

abbrev pub invariant-loop-claimed : goal.invariant-loop-claimed
invariant-loop-claimed g l = record {
  coming : IsComing g.L.Law.same g.L.Law.hash_of l.self.of.slab l.fn.value l.fn.number l.coming;
  of : IsOf g.L.Law.same g.L.Law.hash_of l.self.of l.seen.book l.seen.names l.seen.log;
  longer : IsPrefix l.fn.seen.log l.seen.log;
  goes : Goes (g.L.Law.same l.fn.value) l.self.of.size (mark_of (g.L.Law.hash_of l.fn.value)) l.seen.log l.index l._claimed;
}
