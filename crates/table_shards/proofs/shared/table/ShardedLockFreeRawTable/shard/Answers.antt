use Rattle.std.proofs.Common.{◌<◌, length, arith, sym}
use Rattle.table_shards.proofs.Shards.{shard_within, read_shard}
use Rattle.table_shards.proofs.SharedShards.{elements_fit}
use Rattle.table_shards.proofs.shared.table.ShardedLockFreeRawTable.shard.Goals as goal

pub bounds-shards-shard_of : goal.bounds-shards-shard_of
bounds-shards-shard_of g c = rw c.as_slice-shards.ensures (shard_within _ c.shard_of.result _ c.self.invariant.0 c.self.invariant.1 c.shard_of.ensures.inside)

pub returns : goal.returns
returns g c =
    let within = shard_within g.row.SHARDS c.shard_of.result c.self.inside.shards c.self.invariant.0 c.self.invariant.1 c.shard_of.ensures.inside in
    record { of_hash = rw (← c.self.view_is, ← c.shard_of.ensures.is) (sym (read_shard c.self.inside.shards c.shard_of.result _ c.index-shards-shard_of.result within (rw (← c.as_slice-shards.ensures) c.index-shards-shard_of.is))) }

pub as_slice-shards-requires : goal.as_slice-shards-requires
as_slice-shards-requires g c = search elements_fit

pub offset_bounds-shards-shard_of : goal.offset_bounds-shards-shard_of
offset_bounds-shards-shard_of g c =
    let within : c.shard_of.result < length c.as_slice-shards.result.now = rw c.as_slice-shards.ensures (shard_within _ c.shard_of.result _ c.self.invariant.0 c.self.invariant.1 c.shard_of.ensures.inside) in
    omega (arith, within)
