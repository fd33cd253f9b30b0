use Rattle.std.proofs.Common.{arith, append_assoc}
use Rattle.std.proofs.lemmas.Grind.{common_steps}
use Rattle.tool_commands.proofs.NumberLists.{debug_list-numbers}
use Rattle.tool_commands.proofs.answers.AnswerDisplay.fmt.Goals as goal

pub returns-in-Walk-clause-writes : goal.returns-in-Walk-clause-writes
returns-in-Walk-clause-writes g c =
    rw (← c.finished.view_is, c.in-Walk.is, append_assoc)
    (rw (debug_list-numbers c.in-Walk.entries.items) at c.write-in-Walk.ensures.writes)

pub returns-in-Found-clause-writes : goal.returns-in-Found-clause-writes
returns-in-Found-clause-writes g c = grind (arith, common_steps)
