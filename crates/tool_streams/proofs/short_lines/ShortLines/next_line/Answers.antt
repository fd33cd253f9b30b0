use Rattle.std.proofs.Common.{rules}
use Rattle.tool_streams.proofs.short_lines.ShortLines.next_line.Goals as goal

pub returns-in_err-map_err-2 : goal.returns-in_err-map_err-2
returns-in_err-map_err-2 g c = search rules
