use Rattle.shared_set.specs.Known.{KnowsMore}
use Rattle.demo_examples.proofs.tell.put_below.Given as goal

abbrev pub invariant-loop-number : goal.invariant-loop-number
invariant-loop-number g l = KnowsMore l.fn.mine l.mine
