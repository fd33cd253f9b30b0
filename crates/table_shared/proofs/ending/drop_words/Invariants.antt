use Rattle.std.specs.Prelude.{All}
use Rattle.std.specs.Vec.Iter.{into_iter_items}
use Rattle.table_shared.specs.Lineages.{IsOpen}
use Rattle.table_shared.proofs.ending.drop_words.Given as goal

-- the words that are left are open
abbrev pub invariant-loop-word : goal.invariant-loop-word
invariant-loop-word g l = All (IsOpen l.closed.id l.alloc) (into_iter_items l.word-iterator)
