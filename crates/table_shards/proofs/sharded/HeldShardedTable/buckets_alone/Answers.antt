use Rattle.std.proofs.Common.{◌≡◌, ◌∙◌, ap, arith, ltb, inl, inr}
use Rattle.std.proofs.lemmas.Grind.{common_steps}
use Rattle.std.proofs.lemmas.Bool.{cases_Bool, ltb-true, ltb-false}
use Rattle.std.proofs.lemmas.List.{take_all}
use Rattle.table_held.specs.Table.{all_buckets}
use Rattle.table_shards.specs.Shards.{capped_sum, shard_at, HasFewBuckets}
use Rattle.table_shards.proofs.Shards.{read_shard}
use Rattle.table_shards.proofs.sharded.HeldShardedTable.buckets_alone.Goals as goal

pub returns : goal.returns
returns g c =
    rw (← c.self.view_is, ← c.as_slice-shard-items.ensures) (record {
      all = c.loop-shard.invariant.0 ∙ ap (capped_sum all_buckets) (take_all c.loop-shard.shard-index c.as_slice-shard-items.result.now (omega arith));
      linear_in_entries = λ k within. c.loop-shard.invariant.1 k (omega (arith, within));
    })

pub loop-shard-preserved : goal.loop-shard-preserved
loop-shard-preserved g c =
    let read : shard_at c.as_slice-shard-items.result.now c.loop-shard.shard-index ≡ c.shard-item.result = read_shard c.as_slice-shard-items.result.now c.loop-shard.shard-index _ c.shard-item.result (omega arith) c.shard-item.is in
    let few : HasFewBuckets c.shard-item.result = rw (← c.buckets_alone.ensures.all) c.buckets_alone.ensures.linear_in_entries in (
      grind (arith, common_steps),
      λ k within. elim (cases_Bool (ltb k c.loop-shard.shard-index)) [
        | inl before ↦ c.loop-shard.invariant.1 k (ltb-true k c.loop-shard.shard-index before)
        | inr last ↦ (let is : k ≡ c.loop-shard.shard-index = omega (arith, within, ltb-false k c.loop-shard.shard-index last) in rw (is, read) few)
      ],
    )
