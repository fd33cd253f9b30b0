use Rattle.std.proofs.Common.{◌≡◌, ◌∷◌, ◌∙◌}
use Rattle.table_shards.proofs.ShardWalks.{next_left, no_targets}
use Rattle.table_shards.proofs.sharded.iter.HeldIterIterator.next.Goals as goal

pub loop-target-preserved : goal.loop-target-preserved
loop-target-preserved g c =
    let out = no_targets g.T.AtomicValue.target c.loop-target.self-inside.walk c.in_default.ensures.steps.0 in
    let split : c.loop-target.self-inside.later.now ≡ c.in_ok-shard.shard.now ∷ c.in_ok-shard.later.now = c.in_ok-shard.ensures.cases.0 in
    next_left c.loop-target.self-inside.walk c.iter_alone-self-inside.result c.in_ok-shard.shard.now c.loop-target.self-inside.later.now c.in_ok-shard.later.now out c.iter_alone-self-inside.ensures.entries split
    ∙ c.loop-target.invariant
