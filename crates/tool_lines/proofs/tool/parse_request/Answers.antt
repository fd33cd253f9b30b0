use Rattle.tool_lines.proofs.Tools.{nothing_asked}
use Rattle.tool_lines.proofs.tool.parse_request.Goals as goal

pub returns-in-None-clause-no_tool : goal.returns-in-None-clause-no_tool
returns-in-None-clause-no_tool g c = nothing_asked g.S.AsStr.text c.args.words.now c.in-len1-up.len_at_least c.in-None.ensures.none
