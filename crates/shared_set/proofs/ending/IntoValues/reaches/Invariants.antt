use Rattle.std.proofs.Common.{◌≡◌}
use mathlib.Core.List.{IsPrefix}
use Rattle.shared_set.specs.Known.{Keeps, IsCursor}
use Rattle.shared_set.proofs.ending.IntoValues.reaches.Given as goal

abbrev pub invariant-loop-slot : goal.invariant-loop-slot
invariant-loop-slot g l = record {
  at : IsCursor g.L.Law.same g.L.Law.hash_of l.self.of l.cursor;
  longer : IsPrefix l.self-inside.stages.log l.cursor.stages.log;
  keeps : Keeps l.fn.from.entries.log l.cursor.entries.log;
  slot : l.cursor.slot ≡ l.slot;
}
