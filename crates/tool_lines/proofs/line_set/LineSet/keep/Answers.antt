use Rattle.std.proofs.Common.{rules}
use Rattle.tool_lines.proofs.HeldLines.{keeps}
use Rattle.tool_lines.proofs.line_set.LineSet.keep.Goals as goal

pub returns-clause-kept : goal.returns-clause-kept
returns-clause-kept g c = λ lines held.
    keeps g.T.StoredLine.bytes_of _ _ c.self.inside.lines c.place_alone.new.self c.args.line.hash _ c.args.line.bytes.now c.in-Ok.field-0.0 c.in-Ok.field-0.1 c.self.invariant
    (λ a b answer s. search rules) (λ a h s. search rules) c.args.line.hashed c.in_ok-stored.ensures
    c.in-Ok.ensures.as_list lines (rw (← c.self.view_is) at held)
