use Rattle.std.proofs.Common.{◌≤◌, ◌<◌, ◌-◌}
use mathlib.Core.List.{IsPrefix}
use Rattle.table_chain.specs.History.{Stands}
use Rattle.table_chain.specs.Chains.{IsOf}
use Rattle.table_chain.proofs.chain.Chain.last.Given as goal

abbrev pub invariant-loop-last : goal.invariant-loop-last
invariant-loop-last g l = record {
  of : IsOf g.F.Follows.begins g.F.Follows.follows l.self l.seen.book l.seen.names l.seen.log;
  longer : IsPrefix l.fn.seen.log l.seen.log;
  forth : l.from ≤ l.last;
  inside : l.last < l.self.slots;
  there : (x : g.row.G.Denot) × Stands l.seen.log l.last x;
}

abbrev pub decreases-loop-last : goal.decreases-loop-last
decreases-loop-last g l = l.self.slots - l.last
