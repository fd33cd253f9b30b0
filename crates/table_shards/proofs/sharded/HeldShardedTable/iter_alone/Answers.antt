use Rattle.std.proofs.Common.{◌≡◌, ◌∷◌, length, arith}
use Rattle.table_shards.specs.Shards.{entries}
use Rattle.table_shards.specs.ShardWalks.{left_of}
use Rattle.table_shards.proofs.Shards.{some_shards}
use Rattle.table_shards.proofs.ShardWalks.{all_left, all_walk_as_list}
use Rattle.table_shards.proofs.sharded.HeldShardedTable.iter_alone.Goals as goal

pub unreachable-requires : goal.unreachable-requires
unreachable-requires g c =
    let none : length c.self.inside.shards ≡ 0 = rw c.as_slice.ensures at c.in-None.ensures.cases in
    omega (arith, none, c.self.told, some_shards g.row.SHARDS c.self.invariant.0)

pub returns : goal.returns
returns g c =
    let split : c.self.inside.shards ≡ c.in-Some.first.now ∷ c.in-Some.later.now = rw c.as_slice.ensures at c.in-Some.ensures.cases.0 in
    let all : left_of c.iter_alone.result c.in-Some.later.now ≡ entries c.args.self.now = rw (← c.self.view_is, c.iter_alone.ensures.entries) (all_left c.self.inside.shards c.in-Some.first.now c.in-Some.later.now split) in
    record { entries = all; as_list = all_walk_as_list c.args.self.now _ all }
