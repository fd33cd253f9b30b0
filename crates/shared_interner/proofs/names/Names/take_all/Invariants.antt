use Rattle.shared_set.specs.Known.{KnowsMore}
use Rattle.shared_interner.specs.Sharing.{KeepsFirst}
use Rattle.shared_interner.proofs.names.Names.take_all.Given as goal

abbrev pub invariant-loop-index : goal.invariant-loop-index
invariant-loop-index g l = record {
  known : KnowsMore l.fn.self l.self;
  first : KeepsFirst l.index l.texts l.self.history;
}
