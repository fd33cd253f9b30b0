use Rattle.std.proofs.Common.{inr}
use Rattle.tool_commands.specs.declared.faults.Fault.TheVariants.{Usage}
use Rattle.tool_commands.proofs.program.run_words_under.Goals as goal

pub returns-in_default-clause-status : goal.returns-in_default-clause-status
returns-in_default-clause-status g c = inr (Usage, c.end_with.ensures)
