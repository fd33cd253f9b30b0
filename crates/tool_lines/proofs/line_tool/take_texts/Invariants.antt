use Rattle.std.proofs.Common.{ℕ, List}
use Rattle.tool_lines.specs.Pieces.{lines_of}
use Rattle.tool_lines.specs.Texts.{HasReadTexts}
use Rattle.tool_lines.specs.Taken.{TakesLines}
use Rattle.tool_lines.proofs.line_tool.take_texts.Given as goal

-- the lines of the texts that were read are taken
abbrev pub invariant-loop-text : goal.invariant-loop-text
invariant-loop-text g l = (more : List (List ℕ)) × HasReadTexts lines_of (g.T.Texts.left l.initial.texts) (g.T.Texts.left l.texts) more
    × TakesLines g.L.LineTool.has_taken g.L.LineTool.written l.initial.tool more l.tool (g.O.Write.contents l.initial.output) (g.O.Write.contents l.output)
