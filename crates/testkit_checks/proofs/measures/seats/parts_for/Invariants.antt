use Rattle.std.proofs.Common.{◌≡◌, ◌<◌, length}
use Rattle.std.specs.Prelude.{All}
use Rattle.seated.specs.Tables.{IsSeatOf}
use Rattle.testkit_checks.proofs.measures.seats.parts_for.Given as goal

abbrev pub invariant-loop-worker : goal.invariant-loop-worker
invariant-loop-worker l = (length l.parts.items ≡ l.worker) × All (λ part. (part.worker < 4) × IsSeatOf l.table part.seat) l.parts.items × IsSeatOf l.table l.last
