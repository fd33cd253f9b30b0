use Rattle.std.specs.Prelude.{◌≡◌, ◌≤◌, ◌⊎◌}
use mathlib.Core.List.{IsPrefix}
use Rattle.shared_set.specs.Known.{Keeps, IsCursor}
use Rattle.shared_set.proofs.set.SharedSet.go_to.Given as goal

abbrev pub invariant-loop-passed : goal.invariant-loop-passed
invariant-loop-passed g l = record {
  at : IsCursor g.L.Law.same g.L.Law.hash_of l.self.of l.cursor;
  longer : IsPrefix l.fn.cursor.stages.log l.cursor.stages.log;
  keeps : Keeps l.fn.cursor.entries.log l.cursor.entries.log;
  slot : l.cursor.slot ≡ l._passed;
  within : (l.cursor.slot ≡ l.fn.cursor.slot) ⊎ (l._passed ≤ l.slot);
}
