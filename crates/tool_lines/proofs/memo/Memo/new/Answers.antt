use Rattle.tool_lines.specs.Memo.{same_answer, answer_hash}
use Rattle.tool_lines.proofs.memo.Memo.new.Goals as goal

pub invariant_of-result : goal.invariant_of-result
invariant_of-result g c = c.new.ensures.lawful same_answer answer_hash
