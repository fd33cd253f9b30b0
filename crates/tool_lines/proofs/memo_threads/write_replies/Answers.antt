use Rattle.std.proofs.Common.{◌++◌}
use Rattle.std.proofs.KnownBytes.{Appends-trans}
use Rattle.tool_lines.proofs.Replies.{next_reply}
use Rattle.tool_lines.proofs.memo_threads.write_replies.Goals as goal

pub loop-argument-preserved : goal.loop-argument-preserved
loop-argument-preserved g c = (
  c.loop-argument.invariant.0 ++ _,
  Appends-trans _ (g.W.Write.contents c.loop-argument.output) _ c.loop-argument.invariant.0 _ c.loop-argument.invariant.1 c.in_ok-write_reply.ensures.answered,
  next_reply c.args.arguments.now c.loop-argument.argument-index c.loop-argument.invariant.0 _ c.loop-argument-test.true c.loop-argument.invariant.2,
)
