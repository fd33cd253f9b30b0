use Rattle.shared_set.specs.Known.{KnowsMore}
use Rattle.shared_set.proofs.handle.Handle.advance.Given as goal

abbrev pub invariant-loop-passed : goal.invariant-loop-passed
invariant-loop-passed g l = KnowsMore l.fn.self l.self
