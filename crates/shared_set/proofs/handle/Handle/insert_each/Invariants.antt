use Rattle.std.specs.Prelude.{length}
use Rattle.shared_set.specs.Known.{KnowsMore}
use Rattle.shared_set.specs.Sharing.{Moves}
use Rattle.shared_set.proofs.handle.Handle.insert_each.Given as goal

abbrev pub invariant-loop-value : goal.invariant-loop-value
invariant-loop-value g l = record {
  known : KnowsMore l.fn.self l.self;
  moves : Moves l.fn.values l.self.history l.values;
}

abbrev pub decreases-loop-value : goal.decreases-loop-value
decreases-loop-value g l = length l.values
