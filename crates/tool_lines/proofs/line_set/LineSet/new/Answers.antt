use Rattle.tool_lines.specs.Hashes.{same_by_bytes, hash_by_bytes}
use Rattle.tool_lines.proofs.line_set.LineSet.new.Goals as goal

pub invariant_of-result : goal.invariant_of-result
invariant_of-result g c = c.new.ensures.lawful (same_by_bytes g.T.StoredLine.bytes_of) (hash_by_bytes g.T.StoredLine.bytes_of)
