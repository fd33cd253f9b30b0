use Rattle.std.proofs.Common.{sym}
use Rattle.tool_lines.proofs.HeldLines.{sees_known, refuses_new}
use Rattle.tool_lines.proofs.Written.{on_err_always}
use Rattle.tool_lines.proofs.line_set.LineSet.seen_before.Goals as goal

pub returns-then-is_some-clause-sees : goal.returns-then-is_some-clause-sees
returns-then-is_some-clause-sees g c =
    sees_known g.T.StoredLine.bytes_of c.args.self.now c.args.line.bytes.now (λ lines held. (c.find.ensures.known lines held).0 (sym c.if-is_some.ensures))

pub returns-in_err-keep-clause-refused : goal.returns-in_err-keep-clause-refused
returns-in_err-keep-clause-refused g c = on_err_always c.from_residual.result _
    (refuses_new g.T.StoredLine.bytes_of c.args.self.now c.keep.new.self c.args.line.bytes.now (rw (← c.if-is_some.ensures) at c.find.ensures.known) c.in_err-keep.ensures.refused)

pub returns-clause-sees : goal.returns-clause-sees
returns-clause-sees g c = λ lines held. (rw (← c.if-is_some.ensures) at (c.find.ensures.known lines held), c.in_ok-keep.ensures.kept lines held)
