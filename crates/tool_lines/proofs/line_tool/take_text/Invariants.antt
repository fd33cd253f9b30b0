use Rattle.std.proofs.Common.{ℕ, List}
use Rattle.tool_streams.specs.Lines.{lines_left}
use Rattle.tool_lines.specs.Pieces.{HasReadLines}
use Rattle.tool_lines.specs.Taken.{TakesLines}
use Rattle.tool_lines.proofs.line_tool.take_text.Given as goal

-- the lines that were read are taken
abbrev pub invariant-loop-before : goal.invariant-loop-before
invariant-loop-before g l = (more : List (List ℕ)) × HasReadLines (g.I.Read.remaining l.fn.text) (lines_left g.I.Read.remaining l.lines) more
    × TakesLines g.L.LineTool.has_taken g.L.LineTool.written l.initial.tool more l.tool (g.W.Write.contents l.initial.output) (g.W.Write.contents l.output)
