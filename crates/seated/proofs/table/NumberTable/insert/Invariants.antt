use Rattle.std.proofs.Common.{◌≡◌, []}
use Rattle.table_terms.specs.Probes.{bucket_at}
use Rattle.seated.proofs.Walks.{Walked}
use Rattle.seated.proofs.table.NumberTable.insert.Given as goal

abbrev pub invariant-loop-tried : goal.invariant-loop-tried
invariant-loop-tried _ l = (l.seat.inner.table_id ≡ l.initial.seat.inner.table_id) × (l.seat.inner.me.1 ≡ []) × (l.bucket ≡ bucket_at l.self.table.shared.table_id.words l.x l._tried) × Walked l.self.table.shared.table_id.words l.x l._tried l.initial.seat.inner.me.0 l.seat.inner.me.0
