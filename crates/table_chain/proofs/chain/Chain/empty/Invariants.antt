use Rattle.std.proofs.Common.{◌≡◌, ◌+◌, ◌≤◌, length, vec_capacity}
use Rattle.table_chain.specs.Chains.{AreWords}
use Rattle.table_chain.proofs.chain.Chain.empty.Given as goal

abbrev pub invariant-loop-made : goal.invariant-loop-made
invariant-loop-made g l = record {
  words : AreWords l.seen.book l.words.items;
  long : length l.words.items ≡ l._made;
  book : l.pens.book ≡ l.seen.book;
  next : l.pens.next ≡ l._made;
  left : l._made + l.pens.left ≡ l.slots;
  room : l.slots ≤ vec_capacity l.words;
}
