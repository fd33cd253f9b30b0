use Rattle.std.proofs.Common.{◌≡◌, ◌≤◌, ◌+◌, length, get_or, sym, arith}
use Rattle.std.specs.List.{flat_map}
use Rattle.std.proofs.lemmas.List.Folds.{length-flat_map-take}
use Rattle.table_held.specs.Table.{entries}
use Rattle.table_shards.proofs.sharded.hint.count_with.Goals as goal

-- the shards up to the one at which the count is too great have no more entries than all
pub returns-in_err-count : goal.returns-in_err-count
returns-in_err-count g c =
    let some = length-flat_map-take entries c.args.shards.now c.loop-shard.shard-index c.shard-item.result (omega arith) in
    let here : length (entries (get_or c.args.shards.now c.loop-shard.shard-index c.shard-item.result)) ≡ c.len_alone.result = rw (← c.shard-item.is) (sym c.len_alone.ensures.counted) in
    let over : 18446744073709551616 ≤ c.args.entries_before + length (flat_map entries c.args.shards.now) = omega (arith, some, here, c.in_err-count.ensures) in
    rw c.from_residual.ensures over
