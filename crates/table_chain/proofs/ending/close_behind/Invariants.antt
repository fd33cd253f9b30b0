use Rattle.std.proofs.Common.{◌≡◌, ℕ, ◌<◌}
use mathlib.Core.List.{IsPrefix}
use Rattle.table_chain.specs.History.{Stands, IsReached}
use Rattle.table_chain.proofs.ending.close_behind.Given as goal

abbrev pub invariant-loop-slot : goal.invariant-loop-slot
invariant-loop-slot g l = record {
  same : (l.seen.book ≡ l.fn.seen.book) × (l.seen.names ≡ l.fn.seen.names);
  longer : IsPrefix l.fn.seen.log l.seen.log;
  reached : IsReached g.F.Follows.begins g.F.Follows.follows l.seen.log;
  values : (p : ℕ) → p < l.slot → (x : g.row.G.Denot) × Stands l.seen.log p x;
}
