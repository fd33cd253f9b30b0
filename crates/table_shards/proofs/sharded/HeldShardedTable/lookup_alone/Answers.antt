use Rattle.std.proofs.Common.{◌≡◌, ◌<◌, length, sym}
use Rattle.std.specs.Fn.{FnReturnsAt}
use Rattle.std.proofs.lemmas.Option.{IfSome_then}
use Rattle.table_shards.specs.Shards.{sharded, shard_at}
use Rattle.table_held.proofs.Answered.{looks_up_as_list}
use Rattle.table_shards.proofs.Shards.{shard_within, read_shard, found_in_all, none_in_all, if_none}
use Rattle.table_shards.proofs.sharded.HeldShardedTable.lookup_alone.Goals as goal

pub bounds-shards-shard_of : goal.bounds-shards-shard_of
bounds-shards-shard_of g c = rw c.as_slice-shards.ensures (shard_within _ c.shard_of.result _ c.self.invariant.0 c.self.invariant.1 c.shard_of.ensures.inside)

pub returns : goal.returns
returns g c =
    let long : length c.args.self.now ≡ g.row.SHARDS = rw (← c.self.view_is) c.self.invariant.1 in
    let within : c.shard_of.result < length c.args.self.now = shard_within _ c.shard_of.result _ c.self.invariant.0 long c.shard_of.ensures.inside in
    let read : shard_at c.args.self.now c.shard_of.result ≡ c.index-shards-shard_of.result = read_shard c.args.self.now c.shard_of.result _ c.index-shards-shard_of.result within (rw (← c.self.view_is, ← c.as_slice-shards.ensures) c.index-shards-shard_of.is) in
    let accepted = IfSome_then c.lookup_alone.result c.lookup_alone.ensures.accepted (λ found one. found_in_all g.T.AtomicValue.target (FnReturnsAt g.F.Fn c.args.test) c.args.self.now c.shard_of.result within found.now (rw read one)) in
    let none = if_none c.lookup_alone.result c.lookup_alone.ensures.none (λ one. none_in_all g.T.AtomicValue.target (FnReturnsAt g.F.Fn c.args.test) c.args.self.now c.shard_of.result within g.L.Law.same g.L.Law.hash_of c.args.hash (rw long (sym c.shard_of.ensures.is)) (rw read one)) in
    record {
      accepted = accepted;
      none = none;
      as_list = looks_up_as_list g.T.AtomicValue.target g.L.Law.same g.L.Law.hash_of sharded (FnReturnsAt g.F.Fn c.args.test) c.args.self.now c.args.hash c.lookup_alone.result accepted none;
    }
