use Rattle.std.proofs.Common.{◌≡◌, ◌≤◌, ◌+◌, ◌++◌, length, map, vec_capacity}
use Rattle.std.specs.Vec.Iter.{into_iter_items}
use Rattle.table_slab.specs.declared.ending.Cell.TheVariants.{Shared}
use Rattle.table_slab.proofs.ending.all_shared.Given as goal

abbrev pub invariant-loop-cell : goal.invariant-loop-cell
invariant-loop-cell g l = record {
  so_far : l.made.items ++ map Shared (into_iter_items l.cell-iterator) ≡ map Shared l.fn.cells.items;
  room : length l.made.items + length (into_iter_items l.cell-iterator) ≤ vec_capacity l.made;
}
