use Rattle.std.proofs.Common.{◌≡◌, take, suc, refl, Some, arith, add-one, ◌+◌}
use Rattle.std.specs.List.{slice_get}
use Rattle.std.proofs.lemmas.Option.{slice_get_read}
use Rattle.std.specs.Prelude.{sum_by}
use Rattle.table_core.proofs.Weights.{sum_by-weigh}
use Rattle.table_core.specs.Generations.{Gen}
use Rattle.table_core.proofs.Lists.{weigh-take_more, weigh-take}
use Rattle.table_core.proofs.table.capacity_of.Goals as goal

pub overflow_add-buckets : goal.overflow_add-buckets
overflow_add-buckets g c =
    let g : slice_get c.args.generations.now c.loop-generation.generation-index ≡ Some c.generation-item.result = slice_get_read c.args.generations.now _ c.loop-generation.generation-index c.generation-item.result refl c.loop-generation-test.true c.generation-item.is in
    let m = weigh-take_more (λ (g : Gen). g.capacity) c.args.generations.now c.loop-generation.generation-index c.generation-item.result g in
    let p = weigh-take (λ (g : Gen). g.capacity) c.args.generations.now (suc c.loop-generation.generation-index) in
    let i : c.loop-generation.buckets ≡ sum_by (λ (g : Gen). g.capacity) (take c.loop-generation.generation-index c.args.generations.now) = c.loop-generation.invariant in
    let v = c.capacity-buckets.ensures.value in
    let before = sum_by-weigh (λ (g : Gen). g.capacity) (take c.loop-generation.generation-index c.args.generations.now) in
    let past = sum_by-weigh (λ (g : Gen). g.capacity) (take (suc c.loop-generation.generation-index) c.args.generations.now) in
    let all = sum_by-weigh (λ (g : Gen). g.capacity) c.args.generations.now in
    omega arith

pub loop-generation-preserved : goal.loop-generation-preserved
loop-generation-preserved g c =
    let g : slice_get c.args.generations.now c.loop-generation.generation-index ≡ Some c.generation-item.result = slice_get_read c.args.generations.now _ c.loop-generation.generation-index c.generation-item.result refl c.loop-generation-test.true c.generation-item.is in
    let m = weigh-take_more (λ (g : Gen). g.capacity) c.args.generations.now c.loop-generation.generation-index c.generation-item.result g in
    let i : c.loop-generation.buckets ≡ sum_by (λ (g : Gen). g.capacity) (take c.loop-generation.generation-index c.args.generations.now) = c.loop-generation.invariant in
    let v = c.capacity-buckets.ensures.value in
    let before = sum_by-weigh (λ (g : Gen). g.capacity) (take c.loop-generation.generation-index c.args.generations.now) in
    let past = sum_by-weigh (λ (g : Gen). g.capacity) (take (suc c.loop-generation.generation-index) c.args.generations.now) in
    let all = sum_by-weigh (λ (g : Gen). g.capacity) c.args.generations.now in
    let z : c.loop-generation.buckets + c.capacity-buckets.result ≡ sum_by (λ (g : Gen). g.capacity) (take (c.loop-generation.generation-index + 1) c.args.generations.now) = rw add-one (omega arith) in z
