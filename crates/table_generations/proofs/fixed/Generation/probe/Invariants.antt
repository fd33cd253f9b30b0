use Rattle.std.proofs.Common.{◌≡◌, ◌<◌, length}
use Rattle.std.specs.Fn.{FnReturnsAt}
use Rattle.table_terms.specs.Probes.{bucket_at}
use Rattle.table_generations.specs.Buckets.{shown_all}
use Rattle.table_generations.specs.Probe.{IsPassed}
use Rattle.table_generations.proofs.fixed.Generation.probe.Given as goal

pub record IsUnderWay (A B C : Type 0) : Type 0 where
  pub below : A
  pub at : B
  pub passed : C

abbrev pub invariant-loop-seen : goal.invariant-loop-seen
invariant-loop-seen g l =
    let shown = shown_all (l.self-inside.row.contents) in
    IsUnderWay (l.index < length l.self-inside.row.contents)
    (l.index ≡ bucket_at (length shown) l.hash l._seen)
    (IsPassed g.T.AtomicValue.target (FnReturnsAt g.F.Fn l.test) shown l.hash l._seen)
