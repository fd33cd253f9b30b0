use Rattle.std.proofs.Common.{◌<◌, ◌∙◌, arith}
use Rattle.tool_streams.proofs.LineCuts.{ended, not_ended}
use Rattle.tool_streams.proofs.lines.Lines.read_line.Goals as goal

pub returns-then-index-eq10-clause-reads : goal.returns-then-index-eq10-clause-reads
returns-then-index-eq10-clause-reads g c =
    let some : 0 < c.len-last.result = omega (arith, c.len-last.ensures, c.in-Ok.ensures.ok, c.in-Ok.field-0-test.1) in
    rw (c.if-self.false, c.truncate.ensures.items) (ended _ _ c.read_until.new.buf.items c.len-last.result c.index.result.now (rw c.clear.ensures.items at c.in-Ok.ensures.bytes) c.in-Ok.ensures.rest
    (c.len-last.ensures ∙ c.read_until.new.buf.ok.0) some c.index.ensures c.if-index-eq10.true)

pub returns-else-index-eq10-clause-reads : goal.returns-else-index-eq10-clause-reads
returns-else-index-eq10-clause-reads g c =
    let some : 0 < c.len-last.result = omega (arith, c.len-last.ensures, c.in-Ok.ensures.ok, c.in-Ok.field-0-test.1) in
    rw c.if-self.false (not_ended _ c.read_until.new.buf.items c.len-last.result c.index.result.now (rw c.clear.ensures.items at c.in-Ok.ensures.bytes)
    (c.len-last.ensures ∙ c.read_until.new.buf.ok.0) some c.index.ensures c.if-index-eq10.false)
