use Rattle.std.proofs.Common.{◌≡◌, ◌≤◌, length, vec_capacity}
use Rattle.table_numbered.specs.Hints.{AreHints}
use Rattle.table_numbered.proofs.hints.Hints.new.Given as goal

abbrev pub invariant-loop-made : goal.invariant-loop-made
invariant-loop-made g l = record {
  hints : AreHints l.seen.book l.row.items;
  long : length l.row.items ≡ l._made;
  room : l.words ≤ vec_capacity l.row;
}
