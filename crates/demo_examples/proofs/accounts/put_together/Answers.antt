use Rattle.std.proofs.Common.{◌≡◌, ◌++◌, [], List, All, ap, subst, arith, rules}
use Rattle.std.specs.Vec.Iter.{into_iter_items}
use Rattle.std.specs.List.{flat_map}
use Rattle.std.specs.List.Sorted.{IsPermutation}
use Rattle.demo_examples.specs.Accounts.{IsWork, worked}
use Rattle.demo_examples.specs.declared.accounts.Work.{Work}
use Rattle.demo_examples.proofs.Handed.{no_items, of_one_set}
use Rattle.demo_examples.proofs.Moved.{next_joined, all_done}
use Rattle.demo_examples.proofs.accounts.put_together.Goals as goal

pub add_work-requires-clause-more : goal.add_work-requires-clause-more
add_work-requires-clause-more g c = let set = c.args.set.now.of in
    (subst (λ (ws : List (Work g.row.V.Denot g.row.L.Denot g.row.A.Denot)). All (λ (w : Work g.row.V.Denot g.row.L.Denot g.row.A.Denot). IsWork g.L.Law.same set w) ws) c.in-Some.ensures.steps.0 c.loop-work.invariant.theirs) 0 c.in-Some.work (omega arith)

pub loop-work-preserved : goal.loop-work-preserved
loop-work-preserved g c = let it = c.loop-work in let w = c.in-Some.work in let rest = into_iter_items c.next.new.self in let steps = c.in-Some.ensures.steps.0 in let set = c.args.set.now.of in
    let all : List g.row.V.Denot = flat_map worked c.args.works.items in record {
      all = c.in_ok-add_work.ensures.of;
      theirs = of_one_set g.L.Law.same set w rest (subst (λ (ws : List (Work g.row.V.Denot g.row.L.Denot g.row.A.Denot)). All (λ (x : Work g.row.V.Denot g.row.L.Denot g.row.A.Denot). IsWork g.L.Law.same set x) ws) steps it.invariant.theirs);
      moved = next_joined all (worked it.all) (worked w) (worked c.add_work.new.all) (flat_map worked rest)
          (subst (λ (ws : List (Work g.row.V.Denot g.row.L.Denot g.row.A.Denot)). IsPermutation all (worked it.all ++ flat_map worked ws)) steps it.invariant.moved) c.in_ok-add_work.ensures.moved;
    }

pub returns-clause-moved : goal.returns-clause-moved
returns-clause-moved g c = let it = c.loop-work in let rest = into_iter_items it.work-iterator in let none : rest ≡ [] = no_items rest (search rules) in
    all_done (flat_map worked c.args.works.items) (worked it.all) (flat_map worked rest) (ap (λ (ws : List (Work g.row.V.Denot g.row.L.Denot g.row.A.Denot)). flat_map worked ws) none) it.invariant.moved
