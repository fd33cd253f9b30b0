use Rattle.std.proofs.Common.{arith, refl, length-append}
use Rattle.std.proofs.lemmas.List.Elements.{All-nil, All-push}
use Rattle.table_shared.specs.Lineages.{IsOpen}
use Rattle.table_shared.proofs.lineage.later.Later.new.Goals as goal

pub loop-made-init : goal.loop-made-init
loop-made-init g c = (rw c.in_ok-words.ensures.items (All-nil (IsOpen c.args.home.now.id c.args.alloc)), rw c.in_ok-words.ensures.items refl, c.in_ok-words.ensures.capacity)

pub loop-made-preserved : goal.loop-made-preserved
loop-made-preserved g c =
    let long = c.loop-made.invariant.1 in
    let open_word : IsOpen c.args.home.now.id c.args.alloc c.new.result = record { home_is = c.new.ensures.1; from_is = c.new.ensures.0; owning = c.new.ensures.2; unset = c.new.ensures.3 } in (
      rw c.push_reserved.ensures.items (All-push (IsOpen c.args.home.now.id c.args.alloc) c.loop-made.words.items c.new.result c.loop-made.invariant.0 open_word),
      rw (c.push_reserved.ensures.items, length-append) (omega (arith, long)),
      rw c.push_reserved.ensures.capacity c.loop-made.invariant.2,
    )

pub push_reserved-requires : goal.push_reserved-requires
push_reserved-requires g c =
    let long = c.loop-made.invariant.1 in
    let room = c.loop-made.invariant.2 in
    omega (arith, c.loop-made.words.ok.0, long, room)

pub returns-clause-roomy : goal.returns-clause-roomy
returns-clause-roomy g c =
    let long = c.loop-made.invariant.1 in
    let room = c.in_ok-room.ensures.capacity in
    record {
      all_open = c.loop-made.invariant.0;
      none_taken = c.in_ok-room.ensures.items;
      roomy = omega (arith, long, room);
    }

pub returns-clause-from : goal.returns-clause-from
returns-clause-from g c = refl
