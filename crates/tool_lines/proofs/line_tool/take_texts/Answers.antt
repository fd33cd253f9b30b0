use Rattle.std.proofs.Common.{◌++◌, []}
use Rattle.std.specs.List.{flat_map}
use Rattle.tool_lines.specs.Pieces.{lines_of}
use Rattle.tool_lines.proofs.ReadTexts.{start_texts, one_text_more, all_texts}
use Rattle.tool_lines.proofs.Taken.{takes_none, takes_more, takes_all}
use Rattle.tool_lines.proofs.line_tool.take_texts.Goals as goal

pub loop-text-init : goal.loop-text-init
loop-text-init g c = ([], start_texts lines_of _, takes_none g.L.LineTool.has_taken g.L.LineTool.written _ _)

pub returns-in_default : goal.returns-in_default
returns-in_default g c =
    takes_all g.L.LineTool.has_taken g.L.LineTool.written (flat_map lines_of) _ _ _ c.loop-text.invariant.0 _ _
    (all_texts lines_of _ _ _ c.loop-text.invariant.0 c.loop-text.invariant.1 (rw c.in_default.is at c.in_ok-text.ensures)) c.loop-text.invariant.2

pub loop-text-preserved : goal.loop-text-preserved
loop-text-preserved g c = (
  c.loop-text.invariant.0 ++ c.in_ok-take_text.ensures.0,
  one_text_more lines_of _ _ _ _ c.loop-text.invariant.0 _ c.loop-text.invariant.1 (rw c.in-Some.is at c.in_ok-text.ensures) c.in_ok-take_text.ensures.1,
  takes_more g.L.LineTool.has_taken g.L.LineTool.written _ _ _ c.loop-text.invariant.0 c.in_ok-take_text.ensures.0 _ _ _ c.loop-text.invariant.2 c.in_ok-take_text.ensures.2,
)
