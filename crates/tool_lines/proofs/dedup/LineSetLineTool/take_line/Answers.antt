use Rattle.tool_lines.proofs.HeldLines.{takes_known, takes_new}
use Rattle.tool_lines.proofs.Written.{on_ok}
use Rattle.tool_lines.proofs.dedup.LineSetLineTool.take_line.Goals as goal

pub returns-in-Ok-true : goal.returns-in-Ok-true
returns-in-Ok-true g c = takes_known g.T.StoredLine.bytes_of c.args.self.now c.seen_before.new.self c.args.line.bytes.now _ (rw (c.in-Ok-true.field-0-test, c.new.ensures) at c.in-Ok-true.ensures.sees)

pub returns-in-Ok-false : goal.returns-in-Ok-false
returns-in-Ok-false g c = on_ok c.write_line.result _ _
    (λ more. takes_new g.T.StoredLine.bytes_of c.args.self.now c.seen_before.new.self c.args.line.bytes.now _ _ (rw (c.in-Ok-false.field-0-test, c.new.ensures) at c.in-Ok-false.ensures.sees) more)
    c.write_line.ensures
