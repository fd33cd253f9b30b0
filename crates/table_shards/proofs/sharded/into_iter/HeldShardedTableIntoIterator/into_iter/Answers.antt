use Rattle.std.proofs.Common.{◌≡◌, ◌∷◌, [], length, ap, arith}
use Rattle.table_shards.proofs.Shards.{some_shards}
use Rattle.table_shards.proofs.ShardWalks.{all_given}
use Rattle.table_shards.proofs.sharded.into_iter.HeldShardedTableIntoIterator.into_iter.Goals as goal

pub unreachable-requires : goal.unreachable-requires
unreachable-requires g c =
    let none : c.self.inside.shards ≡ [] = c.in-None.ensures.0 in
    omega (arith, ap length none, c.self.invariant.1, some_shards g.row.SHARDS c.self.invariant.0)

pub returns : goal.returns
returns g c =
    let split : c.self.inside.shards ≡ c.in-Some.first ∷ c.next_shard.new.self = c.in-Some.ensures in
    record { into_iter_gives = rw (← c.self.view_is) (all_given c.self.inside.shards c.in-Some.first c.next_shard.new.self c.into_iter.result split c.into_iter.ensures.into_iter_gives.gives.permuted) }
