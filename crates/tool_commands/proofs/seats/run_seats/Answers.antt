use Rattle.std.proofs.Common.{rules}
use Rattle.tool_commands.proofs.seats.run_seats.Goals as goal

pub returns-then-tally : goal.returns-then-tally
returns-then-tally g c = search rules
