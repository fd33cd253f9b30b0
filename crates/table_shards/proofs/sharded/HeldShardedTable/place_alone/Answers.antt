use Rattle.std.proofs.Common.{◌≡◌, ◌<◌, length, refl, sym, ap, ◌∙◌, get_or}
use Rattle.std.proofs.lemmas.List.{length-set, get_or_default}
use Rattle.std.specs.Fn.{FnReturnsAt, FnReturnsAtPair}
use Rattle.table_shards.specs.Shards.{shard_at}
use Rattle.table_shards.proofs.Shards.{shard_within, shard_kept, first_kept, places_kept, counted_shards, in_shard, named_in_shard, lives_inside, says_all}
use Rattle.table_shards.proofs.sharded.HeldShardedTable.place_alone.Goals.{in-Ok, in-Err}
use Rattle.table_shards.proofs.sharded.HeldShardedTable.place_alone.Goals as goal

pub bounds-shards-shard : goal.bounds-shards-shard
bounds-shards-shard g c = rw c.as_mut_slice-shards.ensures.value (shard_within _ c.shard_of-shard.result _ c.self.invariant.0 c.self.invariant.1 c.shard_of-shard.ensures.inside)

pub invariant_of-self : goal.invariant_of-self
invariant_of-self g c =
    let within : c.shard_of-shard.result < length c.self.inside.shards = shard_within _ c.shard_of-shard.result _ c.self.invariant.0 c.self.invariant.1 c.shard_of-shard.ensures.inside in
    rw c.as_mut_slice-shards.ensures.value (c.self.invariant.0, length-set _ _ _ ∙ c.self.invariant.1, counted_shards c.self.inside.shards c.shard_of-shard.result within c.place_alone.new.self c.place_alone.ensures.counted c.self.invariant.2)

pub returns : goal.returns
returns g c =
    let within : c.shard_of-shard.result < length c.self.inside.shards = shard_within _ c.shard_of-shard.result _ c.self.invariant.0 c.self.invariant.1 c.shard_of-shard.ensures.inside in
    let read : shard_at c.self.inside.shards c.shard_of-shard.result ≡ get_or c.as_mut_slice-shards.result.now c.shard_of-shard.result c.index-shards-shard.result = rw c.as_mut_slice-shards.ensures.value (get_or_default c.self.inside.shards c.shard_of-shard.result _ _ within) in
    let answered : c.match-place_alone.result ≡ in_shard c.shard_of-shard.result c.place_alone.result = elim c.match-place_alone.branch [
      | in-Ok w ↦ rw (w.result-is, w.in-Ok.is) refl
      | in-Err w ↦ rw (w.result-is, w.in-Err.is) refl
    ] in
    let says = says_all g.T.AtomicValue.target g.L.Law.same g.L.Law.hash_of g.L.Law.lawful (FnReturnsAtPair g.E.Fn c.args.eq.now) (FnReturnsAt g.H.Fn c.args.hash_fn.now) _ c.self.inside.shards c.shard_of-shard.result within
    _ c.place_alone.new.self c.args.hash c.args.value c.place_alone.result c.match-place_alone.result
    c.self.invariant.1 c.shard_of-shard.ensures.is read c.self.invariant.2 answered
    c.place_alone.ensures.keeps c.place_alone.ensures.marks c.place_alone.ensures.places c.place_alone.ensures.counted c.place_alone.ensures.lawful in
    rw (c.as_mut_slice-shards.ensures.value, ← c.self.view_is) (record {
      keeps = says.keeps;
      marks = says.marks;
      later = says.later;
      places = places_kept c.self.inside.shards c.shard_of-shard.result within c.place_alone.new.self (rw read c.place_alone.ensures.places);
      home = named_in_shard c.shard_of-shard.result _ c.place_alone.result c.match-place_alone.result answered c.shard_of-shard.ensures.is;
      inside = lives_inside c.self.inside.shards c.shard_of-shard.result within c.place_alone.new.self c.args.hash c.args.value g.T.AtomicValue.target (FnReturnsAtPair g.E.Fn c.args.eq.now (g.T.AtomicValue.target c.args.value)) c.place_alone.result c.match-place_alone.result answered (rw read c.place_alone.ensures.keeps);
      others = λ j other. shard_kept c.self.inside.shards c.shard_of-shard.result within c.place_alone.new.self j (λ is. other (is ∙ c.shard_of-shard.ensures.is));
      first = first_kept c.self.inside.shards c.shard_of-shard.result within c.place_alone.new.self (c.place_alone.ensures.first ∙ sym (ap (λ t. t.first_capacity) read));
      shards = length-set _ _ _;
      counted = says.counted;
      lawful = says.lawful;
      as_list = says.as_list;
    })
