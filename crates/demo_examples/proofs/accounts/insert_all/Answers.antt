use Rattle.std.proofs.Common.{◌≡◌, ◌++◌, [], List, length, ap, subst, ◌∙◌, arith, rules}
use Rattle.std.specs.Vec.Iter.{into_iter_items}
use Rattle.std.specs.List.Sorted.{IsPermutation}
use Rattle.shared_set.specs.Known.{SharedView}
use Rattle.demo_examples.specs.Accounts.{IsWork, worked}
use Rattle.demo_examples.proofs.Handed.{no_items}
use Rattle.demo_examples.proofs.Moved.{next_moved, all_done}
use Rattle.demo_examples.proofs.accounts.insert_all.Goals as goal

pub loop-value-preserved : goal.loop-value-preserved
loop-value-preserved g c = let it = c.loop-value in let e = c.insert_one.ensures in let work = c.insert_one.new.work in let rest = into_iter_items c.next.new.self in let steps = c.in-Some.ensures.steps.0 in record {
  mine = e.handle ∙ it.invariant.mine;
  work = subst (λ (s : SharedView). IsWork g.L.Law.same s work) it.invariant.mine e.of;
  moved = next_moved c.args.values.items (worked it.work) (worked work) rest c.in-Some.value (subst (λ (vs : List g.row.V.Denot). IsPermutation c.args.values.items (worked it.work ++ vs)) steps it.invariant.moved) e.moved;
  room = let as_many = ap (λ (vs : List g.row.V.Denot). length vs) steps in e.room (length rest) (omega (arith, as_many, it.invariant.room.0), omega (arith, as_many, it.invariant.room.1));
}

pub returns-clause-moved : goal.returns-clause-moved
returns-clause-moved g c = let it = c.loop-value in let rest = into_iter_items it.value-iterator in let none : rest ≡ [] = no_items rest (search rules) in
    all_done c.args.values.items (worked it.work) rest none it.invariant.moved
