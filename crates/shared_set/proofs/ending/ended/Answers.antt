use Rattle.std.proofs.Common.{◌≡◌, ◌-◌, ◌<◌, ◌∙◌, suc, ap, sym, arith}
use Rattle.table_numbered.specs.Generations.{SetView, GenerationView}
use Rattle.shared_set.specs.Known.{shared_view}
use Rattle.shared_set.proofs.Ended.{first_shown, over_slab, ends_with}
use Rattle.shared_set.proofs.ending.ended.Goals as goal

pub overflow_sub-slot : goal.overflow_sub-slot
overflow_sub-slot g c = let t = c.start-stages.result in let e = c.close-count.ensures in let new = c.close-count.new.seen in let shared = c.requires.over in
    let some : 0 < c.close-count.result = e.counted 0 shared.first (first_shown g.L.Law.same g.L.Law.hash_of c.args.chain c.args.slab.slab shared t.log new.log c.start-stages.ensures.log e.longer) in omega (arith, some)

pub get-stage-requires-clause-there : goal.get-stage-requires-clause-there
get-stage-requires-clause-there g c = let t = c.start-stages.result in let e = c.close-count.ensures in let new = c.close-count.new.seen in let shared = c.requires.over in
    let some : 0 < c.close-count.result = e.counted 0 shared.first (first_shown g.L.Law.same g.L.Law.hash_of c.args.chain c.args.slab.slab shared t.log new.log c.start-stages.ensures.log e.longer) in
    e.whole.values (c.close-count.result - 1) (omega (arith, some))

pub end-values-requires-clause-slab : goal.end-values-requires-clause-slab
end-values-requires-clause-slab g c = let t = c.start-stages.result in let e = c.close-count.ensures in let new = c.close-count.new.seen in
    sym (ap (λ (v : GenerationView g.row.V.Denot). v.of.slab) c.generation-generation.ensures
    ∙ over_slab g.L.Law.same g.L.Law.hash_of c.args.chain c.args.slab.slab c.requires.over t.log new.log c.start-stages.ensures.log e.longer e.of.3 (c.close-count.result - 1) c.get-stage.result.now c.get-stage.ensures.there)

pub invariant_of-result : goal.invariant_of-result
invariant_of-result g c = let t = c.start-stages.result in let e = c.close-count.ensures in let new = c.close-count.new.seen in let shared = c.requires.over in
    let some : 0 < c.close-count.result = e.counted 0 shared.first (first_shown g.L.Law.same g.L.Law.hash_of c.args.chain c.args.slab.slab shared t.log new.log c.start-stages.ensures.log e.longer) in
    let is : c.close-count.result ≡ suc (c.close-count.result - 1) = omega (arith, some) in
    rw e.same (ends_with g.L.Law.same g.L.Law.hash_of c.args.chain new.book new.names new.log c.close-count.result (c.close-count.result - 1) c.get-stage.result.now c.generation-generation.result.now c.end-values.result shared.slots e.of e.ended e.counted is
    c.get-stage.ensures.there c.generation-generation.ensures c.end-values.ensures.is)

pub returns : goal.returns
returns g c = let t = c.start-stages.result in let e = c.close-count.ensures in let new = c.close-count.new.seen in record {
  of = rw e.same (ap (shared_view c.args.chain) (ap (λ (s : SetView). s.slab) c.end-values.ensures.is ∙ (ap (λ (v : GenerationView g.row.V.Denot). v.of.slab) c.generation-generation.ensures
      ∙ over_slab g.L.Law.same g.L.Law.hash_of c.args.chain c.args.slab.slab c.requires.over t.log new.log c.start-stages.ensures.log e.longer e.of.3 (c.close-count.result - 1) c.get-stage.result.now c.get-stage.ensures.there)));
  values = c.end-values.ensures.values;
}
