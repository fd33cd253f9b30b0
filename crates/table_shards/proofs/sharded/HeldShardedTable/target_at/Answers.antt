use Rattle.std.proofs.Common.{◌<◌, length, arith}
use Rattle.table_held.specs.Table.{empty_table}
use Rattle.table_shards.proofs.Shards.{place_within, read_shard, some_in_shard, shows_in_shard}
use Rattle.table_shards.proofs.sharded.HeldShardedTable.target_at.Goals as goal

pub bounds-shards-shard : goal.bounds-shards-shard
bounds-shards-shard g c = rw (c.as_slice-shards.ensures, c.self.view_is) (place_within c.args.self.now c.args.place c.requires)

pub offset_bounds-shards-shard : goal.offset_bounds-shards-shard
offset_bounds-shards-shard g c =
    let within : c.args.place.shard < length c.as_slice-shards.result.now = rw (c.as_slice-shards.ensures, c.self.view_is) (place_within c.args.self.now c.args.place c.requires) in
    omega arith

pub target_at-requires : goal.target_at-requires
target_at-requires g c =
    let within = place_within c.args.self.now c.args.place c.requires in
    let read = read_shard c.args.self.now c.args.place.shard (empty_table 0) c.index-shards-shard.result within (rw (← c.self.view_is, ← c.as_slice-shards.ensures) c.index-shards-shard.is) in
    some_in_shard c.args.self.now c.args.place c.index-shards-shard.result read c.requires

pub returns : goal.returns
returns g c =
    let within = place_within c.args.self.now c.args.place c.requires in
    let read = read_shard c.args.self.now c.args.place.shard (empty_table 0) c.index-shards-shard.result within (rw (← c.self.view_is, ← c.as_slice-shards.ensures) c.index-shards-shard.is) in
    shows_in_shard _ c.args.self.now c.args.place c.index-shards-shard.result read c.target_at.ensures
