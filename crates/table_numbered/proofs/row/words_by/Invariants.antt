use Rattle.std.proofs.Common.{◌≡◌, ◌+◌, ◌≤◌, length, vec_capacity}
use Rattle.table_numbered.specs.Generations.{AreWords}
use Rattle.table_numbered.proofs.row.words_by.Given as goal

abbrev pub invariant-loop-made : goal.invariant-loop-made
invariant-loop-made g l = record {
  words : AreWords l.fn.pens.book l.words.items;
  long : length l.words.items ≡ l._made;
  book : l.pens.book ≡ l.fn.pens.book;
  next : l.pens.next ≡ l._made;
  left : l._made + l.pens.left ≡ l.buckets;
  room : l.buckets ≤ vec_capacity l.words;
}
