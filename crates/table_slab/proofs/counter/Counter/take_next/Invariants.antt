use Rattle.std.proofs.Common.{◌≡◌}
use Rattle.table_slab.proofs.counter.Counter.take_next.Given as goal

abbrev pub invariant-loop-try : goal.invariant-loop-try
invariant-loop-try g l = record {
  seen : (l.seen.book ≡ l.self.0) × (l.seen.names ≡ l.self.1);
}
