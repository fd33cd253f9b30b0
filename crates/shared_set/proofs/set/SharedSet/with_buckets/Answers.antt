use Rattle.std.proofs.Common.{sym}
use Rattle.shared_set.specs.Stages.{stage_view}
use Rattle.shared_set.proofs.set.SharedSet.with_buckets.Goals as goal

pub invariant_of-result : goal.invariant_of-result
invariant_of-result g c = let before = c.again-before.result in record {
  chain = record {
    slots = c.in-Ok.ensures.slots;
    first = stage_view c.in_ok-generation.generation before.book before.log;
    begins = c.in-Ok.ensures.first;
    over = c.in_ok-generation.ensures.slab;
  };
  with = sym c.start-start.ensures.log;
  known = tt;
}
