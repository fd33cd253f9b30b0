use Rattle.std.proofs.Common.{arith}
use Rattle.table_shards.proofs.Shards.{counts_all, counts_as_list}
use Rattle.table_shards.proofs.sharded.HeldShardedTable.len_alone.Goals as goal

pub returns : goal.returns
returns g c =
    let counted = counts_all c.as_slice-shard-items.result.now c.loop-shard.shard-index c.loop-shard.sum (omega arith) c.loop-shard.invariant in
    rw (← c.self.view_is, ← c.as_slice-shard-items.ensures) (record {
      counted = counted;
      each = rw c.as_slice-shard-items.ensures c.self.invariant.2;
      as_list = counts_as_list c.as_slice-shard-items.result.now c.loop-shard.sum counted;
    })
