use Rattle.std.proofs.Common.{arith, refl}
use Rattle.std.proofs.lemmas.List.{length-replicate}
use Rattle.std.specs.Fn.{FnReturnsAt}
use Rattle.table_generations.proofs.Entries.{values-replicate}
use Rattle.table_generations.proofs.Contents.{own_none-replicate, shown-replicate}
use Rattle.table_generations.proofs.Rehashes.{rehashed_none}
use Rattle.table_generations.proofs.growth.rehashed.Goals as goal

pub loop-first-init : goal.loop-first-init
loop-first-init g c =
    let blank = c.in_ok-built.ensures in
    rw (blank.vacant, blank.none) (record {
      within = omega arith;
      home = (blank.of, blank.allocator);
      long = length-replicate c.args.capacity _;
      few = omega arith;
      counted = rw (shown-replicate, values-replicate) refl;
      names = own_none-replicate c.args.capacity;
      rehashed = rehashed_none g.T.AtomicValue.target (FnReturnsAt g.H.Fn c.args.hash_fn.now) c.args.old.now.contents c.args.capacity;
    })
