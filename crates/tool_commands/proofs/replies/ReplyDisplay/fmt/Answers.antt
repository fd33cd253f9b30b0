use Rattle.tool_commands.proofs.NumberLists.{debug_list-numbers}
use Rattle.tool_commands.proofs.replies.ReplyDisplay.fmt.Goals as goal

pub returns-in-Numbers-clause-writes : goal.returns-in-Numbers-clause-writes
returns-in-Numbers-clause-writes g c =
    rw c.in-Numbers.is (rw (debug_list-numbers c.in-Numbers.numbers.now) at c.write-in-Numbers.ensures.writes)
