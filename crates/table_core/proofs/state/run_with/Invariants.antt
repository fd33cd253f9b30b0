use Rattle.std.proofs.Common.{◌≡◌, take}
use Rattle.table_core.specs.Machine.{empty, after}
use Rattle.table_core.specs.History.{replies}
use Rattle.table_core.proofs.state.run_with.Given as goal

abbrev pub invariant-loop-event : goal.invariant-loop-event
invariant-loop-event g l = record {
  here : l.state ≡ after l.first (take l.event-index l.events);
  reply : l.replies.items ≡ replies (empty l.first) (take l.event-index l.events);
}
