use Rattle.table_terms.proofs.Masks.{power-is_power_of_two}
use Rattle.tool_commands.proofs.seats.run_workers.Goals as goal

pub new-requires : goal.new-requires
new-requires _ _ = power-is_power_of_two 10
