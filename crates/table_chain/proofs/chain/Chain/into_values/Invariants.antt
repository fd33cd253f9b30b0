use Rattle.std.proofs.Common.{◌≡◌, ◌≤◌, ◌<◌, ◌-◌, ℕ, length, vec_capacity}
use Rattle.std.specs.Prelude.{slice_index_or}
use Rattle.table_chain.specs.History.{Stands}
use Rattle.table_chain.proofs.chain.Chain.into_values.Given as goal

abbrev pub invariant-loop-value : goal.invariant-loop-value
invariant-loop-value g l = record {
  log : l.ending.log ≡ l.initial.ending.log;
  count : l.ending.count ≡ l.initial.ending.count;
  taken : l.ending.taken ≡ length l.values.items;
  each : (p : ℕ) (d : g.row.G.Denot) → p < length l.values.items → Stands l.ending.log p (slice_index_or l.values.items p d);
  room : l.ending.count ≤ vec_capacity l.values;
}

abbrev pub decreases-loop-value : goal.decreases-loop-value
decreases-loop-value g l = l.ending.count - l.ending.taken
