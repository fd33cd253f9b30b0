use Rattle.std.proofs.Common.{arith, rules}
use Rattle.std.proofs.lemmas.Grind.{common_steps}
use Rattle.table_terms.proofs.FirstCapacities.{sixteen_is_first}
use Rattle.tool_commands.proofs.arguments.parse_first.Goals as goal

pub returns-in-empty-clause-first : goal.returns-in-empty-clause-first
returns-in-empty-clause-first g c = sixteen_is_first

pub returns-then-is_first_capacity-clause-named : goal.returns-then-is_first_capacity-clause-named
returns-then-is_first_capacity-clause-named g c = grind (arith, common_steps)

pub returns-then-is_first_capacity-clause-first : goal.returns-then-is_first_capacity-clause-first
returns-then-is_first_capacity-clause-first g c = search rules
