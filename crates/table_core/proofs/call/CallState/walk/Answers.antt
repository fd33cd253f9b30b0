use Rattle.table_core.proofs.call.CallState.walk.Goals as goal

pub returns : goal.returns
returns c = c.in_first_phase.ensures
