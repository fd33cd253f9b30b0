use Rattle.std.proofs.Common.{◌≡◌}
use Rattle.seated.specs.Steps.{Learns}
use Rattle.seated.proofs.table.NumberTable.read_rest.Given as goal

abbrev pub invariant-loop-bucket : goal.invariant-loop-bucket
invariant-loop-bucket _ l = (l.seat.inner.table_id ≡ l.initial.seat.inner.table_id) × (l.seat.inner.me.1 ≡ l.initial.seat.inner.me.1) × Learns l.initial.seat.inner.me.0 l.seat.inner.me.0
