use Rattle.table_core.proofs.Exact.{step, only_step, lock_stays}
use Rattle.table_core.proofs.theorems.events_are_steps.Goals as goal

pub returns-clause-step : goal.returns-clause-step
returns-clause-step c = step

pub returns-clause-only_step : goal.returns-clause-only_step
returns-clause-only_step c = only_step

pub returns-clause-lock_stays : goal.returns-clause-lock_stays
returns-clause-lock_stays c = lock_stays
