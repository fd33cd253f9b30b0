use Rattle.std.proofs.Common.{◌≡◌, length, arith}
use Rattle.table_shards.proofs.Shards.{some_shards}
use Rattle.table_shards.proofs.SharedShards.{elements_fit}
use Rattle.table_shards.proofs.shared.table.ShardedLockFreeRawTable.iter.Goals as goal

pub unreachable-requires : goal.unreachable-requires
unreachable-requires g c =
    let none : length c.self.inside.shards ≡ 0 = rw (← c.as_slice.ensures) c.in-None.ensures.cases in
    omega (arith, none, c.self.told, some_shards g.row.SHARDS c.self.invariant.0)

pub as_slice-requires : goal.as_slice-requires
as_slice-requires g c = search elements_fit
