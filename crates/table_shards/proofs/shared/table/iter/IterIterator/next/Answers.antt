use Rattle.std.proofs.lemmas.List.{nil_from_length}
use Rattle.table_shards.proofs.SharedShards.{passes_one, none_left_out}
use Rattle.table_shards.proofs.shared.table.iter.IterIterator.next.Goals as goal

pub loop-target-preserved : goal.loop-target-preserved
loop-target-preserved g c = passes_one _ c.loop-target.self-inside.ahead.now c.in_ok-shard.ahead.now c.in_ok-shard.shard.now c.loop-target.self-inside.walk c.iter-self-inside.result c.loop-target.invariant c.in_default.ensures.steps.1 c.in_ok-shard.ensures.cases.0 c.iter-self-inside.ensures.fits

pub returns-in_err-shard-clause-steps : goal.returns-in_err-shard-clause-steps
returns-in_err-shard-clause-steps g c = rw c.from_residual.ensures (nil_from_length c.loop-target.self-inside.ahead.now c.in_err-shard.ensures.cases, c.in_default.ensures.steps.0, none_left_out c.args.self.now _ _ c.loop-target.invariant c.in_default.ensures.steps.1)
