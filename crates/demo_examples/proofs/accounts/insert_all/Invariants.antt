use Rattle.std.proofs.Common.{◌≡◌, ◌++◌, length}
use Rattle.std.specs.Vec.Iter.{into_iter_items}
use Rattle.std.specs.List.Sorted.{IsPermutation}
use Rattle.demo_examples.specs.Accounts.{IsWork, HasRoom, worked}
use Rattle.demo_examples.proofs.accounts.insert_all.Given as goal

abbrev pub invariant-loop-value : goal.invariant-loop-value
invariant-loop-value g l = record {
  mine : l.mine.of ≡ l.fn.set.of;
  work : IsWork g.L.Law.same l.fn.set.of l.work;
  moved : IsPermutation l.fn.values.items (worked l.work ++ into_iter_items l.value-iterator);
  room : HasRoom (length (into_iter_items l.value-iterator)) l.work;
}
