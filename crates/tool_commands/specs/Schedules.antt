-- What a line of `core` does to the machine, and what it prints.
use Rattle.std.specs.Prelude.{ℕ, List, [], ◌++◌, Option, Some, None, codes, decimal}
use Rattle.tool_commands.specs.Answers.{answer_text}
use Rattle.tool_commands.specs.declared.events.ScheduleLine.{ScheduleLine}
use Rattle.tool_commands.specs.declared.events.ScheduleLine.TheVariants.{Step, Buckets}
use Rattle.table_core.specs.Replies.{Finished}
use Rattle.table_core.specs.Machine.{World, happens, finishes}
use Rattle.table_core.specs.History.{buckets}

-- the world after a line
abbrev pub world_after : World → ScheduleLine → World
world_after w (Step e) = happens w e
world_after w Buckets = w

-- the line of a finished call, if one has finished
abbrev pub answer_line : Option Finished → List ℕ
answer_line None = []
answer_line (Some f) = answer_text f ++ codes "\n"

-- what a line prints
abbrev pub printed : World → ScheduleLine → List ℕ
printed w (Step e) = answer_line (finishes w e)
printed w Buckets = decimal (buckets w.table) ++ codes "\n"
