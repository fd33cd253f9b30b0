use Rattle.std.proofs.Common.{◌<◌, ℕ}
use mathlib.Core.List.{IsPrefix}
use Rattle.table_numbered.specs.Generations.{IsOf, IsKnown}
use Rattle.table_numbered.specs.Carrying.{IsCarried}
use Rattle.table_numbered.proofs.generation.NumberedGeneration.carry_all.Given as goal

abbrev pub invariant-loop-index : goal.invariant-loop-index
invariant-loop-index g l = record {
  of : IsOf g.L.Law.same g.L.Law.hash_of l.self.of l.seen.book l.seen.names l.seen.log;
  longer : IsPrefix l.fn.seen.log l.seen.log;
  next : IsKnown g.L.Law.same g.L.Law.hash_of l.next.of l.fresh.book l.fresh.names l.fresh.log;
  fresh : IsPrefix l.fn.fresh.log l.fresh.log;
  carried : (p : ℕ) → p < l.index → IsCarried l.seen.log p l.fresh.log;
}
