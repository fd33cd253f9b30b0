use Rattle.std.proofs.Common.{◌≡◌, ◌∷◌, ap, length, arith, length-append}
use Rattle.std.specs.Vec.Iter.{into_iter_items}
use Rattle.std.proofs.lemmas.List.Elements.{All-push, All-tail}
use Rattle.table_shared.specs.Lineages.{IsOpen}
use Rattle.table_shared.specs.Settled.{IsSettled}
use Rattle.table_shared.proofs.ending.rehome_later.Goals as goal

pub loop-word-preserved-in-Some-take_later : goal.loop-word-preserved-in-Some-take_later
loop-word-preserved-in-Some-take_later g c =
    let next : into_iter_items c.loop-word.word-iterator ≡ c.in-Some.word ∷ into_iter_items c.next.new.self = c.in-Some.ensures.steps.0 in
    let long = ap length next in
    let room = c.loop-word.invariant.1 in (
      All-tail (IsOpen c.args.closed.now.id c.args.later.alloc) _ _ (rw next at c.loop-word.invariant.0),
      rw (c.push_reserved.ensures.items, c.push_reserved.ensures.capacity, length-append) (omega (arith, long, room)),
      rw c.push_reserved.ensures.items (All-push (λ b. IsSettled c.args.home.now.id b.value) _ _ c.loop-word.invariant.2 c.in-Some-take_later.ensures),
    )

pub loop-word-preserved : goal.loop-word-preserved
loop-word-preserved g c =
    let next : into_iter_items c.loop-word.word-iterator ≡ c.in-Some.word ∷ into_iter_items c.next.new.self = c.in-Some.ensures.steps.0 in
    let long = ap length next in
    let room = c.loop-word.invariant.1 in (
      All-tail (IsOpen c.args.closed.now.id c.args.later.alloc) _ _ (rw next at c.loop-word.invariant.0),
      omega (arith, long, room),
      c.loop-word.invariant.2,
    )
