use Rattle.table_terms.proofs.FirstCapacities.{sixteen_is_first}
use Rattle.tool_commands.proofs.arguments.parse_command.Goals as goal

pub returns-in-empty-clause-runnable : goal.returns-in-empty-clause-runnable
returns-in-empty-clause-runnable g c = sixteen_is_first
