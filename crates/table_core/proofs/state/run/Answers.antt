use Rattle.table_terms.proofs.FirstCapacities.{sixteen_is_first}
use Rattle.table_core.proofs.state.run.Goals as goal

pub run_with-requires : goal.run_with-requires
run_with-requires g c = sixteen_is_first
