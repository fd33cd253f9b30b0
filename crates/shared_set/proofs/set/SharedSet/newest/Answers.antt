use Rattle.std.proofs.Common.{ap, sym, subst, ◌∙◌}
use Rattle.table_chain.specs.History as chain
use Rattle.table_chain.proofs.Chained as chained
use Rattle.table_numbered.specs.Generations.{GenerationView, IsOf}
use Rattle.shared_set.specs.Stages.{Course, Begins, GrowsInto}
use Rattle.shared_set.specs.Known.{SharedView}
use Rattle.shared_set.proofs.Courses.{one_slab}
use Rattle.shared_set.proofs.Keeping.{one_set, seen_of_set, seen_of_chain}
use Rattle.shared_set.proofs.set.SharedSet.newest.Goals as goal

pub newest_told-slot-requires-clause-seen : goal.newest_told-slot-requires-clause-seen
newest_told-slot-requires-clause-seen g c = let t = c.start-stages.result in
    seen_of_set g.L.Law.same g.L.Law.hash_of c.args.self.now.of c.self.inside.chain c.self.inside.slab (one_set c.self.view_is) c.self.invariant.chain.slots t.book t.names t.log c.start-stages.ensures.of

pub newest_told-slot-requires-clause-first : goal.newest_told-slot-requires-clause-first
newest_told-slot-requires-clause-first g c = let i = c.self.invariant.chain in (i.first, subst (λ (l : Course g.row.V.Denot). chain.Stands l 0 i.first) (sym c.start-stages.ensures.log) i.begins)

pub get-stage-requires-clause-of : goal.get-stage-requires-clause-of
get-stage-requires-clause-of g c = let t = c.newest_told-slot.new.seen in
    seen_of_chain g.L.Law.same g.L.Law.hash_of c.args.self.now.of c.self.inside.chain c.self.inside.slab (one_set c.self.view_is) c.self.invariant.chain.slots t.book t.names t.log c.newest_told-slot.ensures.seen

pub get-stage-requires-clause-there : goal.get-stage-requires-clause-there
get-stage-requires-clause-there g c = c.newest_told-slot.ensures.shown

pub returns : goal.returns
returns g c = let i = c.self.invariant.chain in let t = c.newest_told-slot.new.seen in let s = c.get-stage.result.now in
    let begins : chain.Stands t.log 0 i.first = chained.stands_on (Begins g.L.Law.same g.L.Law.hash_of) (GrowsInto g.L.Law.same g.L.Law.hash_of) c.start-stages.result.log t.log 0 i.first c.newest_told-slot.ensures.longer
    (subst (λ (l : Course g.row.V.Denot). chain.Stands l 0 i.first) (sym c.start-stages.ensures.log) i.begins) in record {
      seen = c.newest_told-slot.ensures.seen;
      stage = s;
      shown = c.get-stage.ensures.there;
      slab = one_slab g.L.Law.same g.L.Law.hash_of c.newest_told-slot.result s i.first t.log c.newest_told-slot.ensures.seen.reached begins c.get-stage.ensures.there ∙ (i.over ∙ ap (λ (x : SharedView). x.slab) (one_set c.self.view_is));
      of = let o = c.start-entries.ensures.of in subst (λ (v : GenerationView g.row.V.Denot). IsOf g.L.Law.same g.L.Law.hash_of v.of c.start-entries.result.book c.start-entries.result.names c.start-entries.result.log) c.generation.ensures o;
    }
