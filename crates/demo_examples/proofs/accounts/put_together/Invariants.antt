use Rattle.std.proofs.Common.{◌++◌, All}
use Rattle.std.specs.Vec.Iter.{into_iter_items}
use Rattle.std.specs.List.{flat_map}
use Rattle.std.specs.List.Sorted.{IsPermutation}
use Rattle.demo_examples.specs.Accounts.{IsWork, worked}
use Rattle.demo_examples.specs.declared.accounts.Work.{Work}
use Rattle.demo_examples.proofs.accounts.put_together.Given as goal

abbrev pub invariant-loop-work : goal.invariant-loop-work
invariant-loop-work g l = record {
  all : IsWork g.L.Law.same l.fn.set.of l.all;
  theirs : All (λ (w : Work g.row.V.Denot g.row.L.Denot g.row.A.Denot). IsWork g.L.Law.same l.fn.set.of w) (into_iter_items l.work-iterator);
  moved : IsPermutation (flat_map worked l.fn.works.items) (worked l.all ++ flat_map worked (into_iter_items l.work-iterator));
}
