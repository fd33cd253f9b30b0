use Rattle.std.proofs.Common.{◌∙◌, ap, arith}
use Rattle.std.proofs.lemmas.List.{take_all}
use Rattle.table_held.specs.Table.{capacity}
use Rattle.table_shards.specs.Shards.{capped_sum}
use Rattle.table_shards.proofs.sharded.HeldShardedTable.capacity_alone.Goals as goal

pub returns : goal.returns
returns g c = rw (← c.self.view_is, ← c.as_slice-shard-items.ensures) (c.loop-shard.invariant ∙ ap (capped_sum capacity) (take_all c.loop-shard.shard-index c.as_slice-shard-items.result.now (omega arith)))
