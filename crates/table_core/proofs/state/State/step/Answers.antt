use Rattle.std.proofs.Common.{rules}
use Rattle.table_core.proofs.CodeFits.{reached_next}
use Rattle.table_core.proofs.state.State.step.Goals as goal

pub invariant_of-self-2 : goal.invariant_of-self-2
invariant_of-self-2 g c = rw c.in_ok-finished.ensures.ok (reached_next c.self.inside.machine c.args.event c.self.invariant)

pub returns-clause-reply : goal.returns-clause-reply
returns-clause-reply g c = search rules
