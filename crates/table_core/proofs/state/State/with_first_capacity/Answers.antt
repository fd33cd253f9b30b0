use Rattle.table_core.proofs.CodeFits.{reached_empty}
use Rattle.table_core.proofs.state.State.with_first_capacity.Goals as goal

pub invariant_of-result : goal.invariant_of-result
invariant_of-result g c = rw c.new.ensures (reached_empty c.args.first c.requires)
