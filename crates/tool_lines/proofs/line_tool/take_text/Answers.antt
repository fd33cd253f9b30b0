use Rattle.std.proofs.Common.{◌++◌, ◌∷◌, []}
use Rattle.tool_lines.proofs.Pieces.{start_lines, one_line_more, all_lines}
use Rattle.tool_lines.proofs.Taken.{takes_none, takes_kept, takes_more}
use Rattle.tool_lines.proofs.line_tool.take_text.Goals as goal

pub loop-before-init : goal.loop-before-init
loop-before-init g c = ([], start_lines _ _ c.in_ok-lines.ensures, takes_none g.L.LineTool.has_taken g.L.LineTool.written _ _)

pub returns-then-not-branch : goal.returns-then-not-branch
returns-then-not-branch g c = (
  c.loop-before.invariant.0,
  all_lines _ _ _ c.read_line.new.self.line.items c.loop-before.invariant.0 c.loop-before.invariant.1 (rw c.if-not-branch.true at c.in_ok-read_line.ensures.reads),
  takes_kept g.L.LineTool.has_taken g.L.LineTool.written _ _ c.loop-before.invariant.0 _ _ _ c.loop-before.invariant.2 c.in_ok-read_line.ensures.output,
)

pub loop-before-preserved : goal.loop-before-preserved
loop-before-preserved g c = (
  c.loop-before.invariant.0 ++ c.line.result.now ∷ [],
  one_line_more _ _ _ c.line.result.now c.loop-before.invariant.0 c.loop-before.invariant.1 (rw (c.if-not-branch.false, ← c.line.ensures) at c.in_ok-read_line.ensures.reads),
  takes_more g.L.LineTool.has_taken g.L.LineTool.written _ _ _ c.loop-before.invariant.0 (c.line.result.now ∷ []) _ _ _
      (takes_kept g.L.LineTool.has_taken g.L.LineTool.written _ _ c.loop-before.invariant.0 _ _ _ c.loop-before.invariant.2 c.in_ok-read_line.ensures.output)
      c.in_ok-take_line.ensures,
)
