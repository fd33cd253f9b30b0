use Rattle.table_cell.specs.Rows.{AreMarked, buckets_of}
use Rattle.table_cell.specs.Rehomed.{AreMovedBelow}
use Rattle.table_cell.proofs.row.rehomed.rehome_buckets.Given as goal

abbrev pub invariant-loop-index : goal.invariant-loop-index
invariant-loop-index g l = AreMarked l.marks.items l.words.items
    × AreMovedBelow l.home.id l.alloc l.index (buckets_of l.fn.marks.items l.fn.words.items) (buckets_of l.marks.items l.words.items)
