use Rattle.table_core.proofs.CodeSteps.{set_same}
use Rattle.table_core.proofs.machine.list_entry.Goals as goal

pub returns-in-None-clause-ok : goal.returns-in-None-clause-ok
returns-in-None-clause-ok g c = λ d h. rw c.in-None.is (set_same c.args.calls.now c.args.at d h)
