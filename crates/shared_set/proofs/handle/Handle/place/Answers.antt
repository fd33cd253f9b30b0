use Rattle.std.proofs.Common.{ap, sym, subst, ◌∙◌}
use Rattle.table_slab.specs.Held.{IsRightTo}
use Rattle.table_slab.specs.Slabs.{SlabView}
use Rattle.table_numbered.specs.Generations.{GenerationView, IsOf}
use Rattle.shared_set.specs.Known.{SharedView, KnownView, KnowsMore}
use Rattle.shared_set.specs.Inserting.{IsPlaced}
use Rattle.shared_set.proofs.Keeping.{one_set, at_shown, at_more}
use Rattle.shared_set.proofs.Supplying.{vacant_back}
use Rattle.shared_set.proofs.Placing.{knows_longer, placed_here, no_bucket_in}
use Rattle.shared_set.proofs.handle.Handle.place.Goals as goal

pub place-requires-clause-slab : goal.place-requires-clause-slab
place-requires-clause-slab g c = let i = c.self.invariant in let k = c.self.inside.cursor in let s = c.self.inside.stage.now in
    ap (λ (x : SharedView). x.slab) (one_set c.set.view_is)
    ∙ (sym (at_shown g.L.Law.same g.L.Law.hash_of c.self.inside.set.now.of k.slot k.stages.book k.stages.names k.stages.log k.entries.book k.entries.names k.entries.log s i.shown i.at).0
    ∙ ap (λ (v : GenerationView g.row.V.Denot). v.of.slab) (sym c.generation-generation.ensures))

pub place-requires-clause-of : goal.place-requires-clause-of
place-requires-clause-of g c = let i = c.self.invariant in let k = c.self.inside.cursor in let s = c.self.inside.stage.now in
    subst (λ (v : GenerationView g.row.V.Denot). IsOf g.L.Law.same g.L.Law.hash_of v.of k.entries.book k.entries.names k.entries.log) (sym c.generation-generation.ensures)
    (at_shown g.L.Law.same g.L.Law.hash_of c.self.inside.set.now.of k.slot k.stages.book k.stages.names k.stages.log k.entries.book k.entries.names k.entries.log s i.shown i.at).1

pub place-requires-clause-right : goal.place-requires-clause-right
place-requires-clause-right g c = let i = c.self.invariant in let k = c.self.inside.cursor in let s = c.self.inside.stage.now in
    subst (λ (x : SlabView). IsRightTo x c.args.number c.args.right)
    (sym (ap (λ (v : KnownView g.row.V.Denot). v.of.slab) c.self.view_is)
    ∙ (sym (at_shown g.L.Law.same g.L.Law.hash_of c.self.inside.set.now.of k.slot k.stages.book k.stages.names k.stages.log k.entries.book k.entries.names k.entries.log s i.shown i.at).0
    ∙ ap (λ (v : GenerationView g.row.V.Denot). v.of.slab) (sym c.generation-generation.ensures))) c.requires.vacant.right

pub invariant_of-self : goal.invariant_of-self
invariant_of-self g c = let i = c.self.invariant in let k = c.self.inside.cursor in let s = c.self.inside.stage.now in let n = c.place.new.seen in record {
  at = at_more g.L.Law.same g.L.Law.hash_of c.self.inside.set.now.of k.slot k.stages.book k.stages.names k.stages.log k.entries.book k.entries.names k.entries.log n.book n.names n.log s i.shown
      (subst (λ (v : GenerationView g.row.V.Denot). IsOf g.L.Law.same g.L.Law.hash_of v.of n.book n.names n.log) c.generation-generation.ensures c.place.ensures.of) i.at;
  shown = i.shown;
  supply = i.supply;
}

pub invariant_of-self-in-Found : goal.invariant_of-self-in-Found
invariant_of-self-in-Found g c = let i = c.self.invariant in let k = c.self.inside.cursor in let s = c.self.inside.stage.now in let n = c.place.new.seen in let back = c.in-Found.ensures.back in record {
  at = at_more g.L.Law.same g.L.Law.hash_of c.self.inside.set.now.of k.slot k.stages.book k.stages.names k.stages.log k.entries.book k.entries.names k.entries.log n.book n.names n.log s i.shown
      (subst (λ (v : GenerationView g.row.V.Denot). IsOf g.L.Law.same g.L.Law.hash_of v.of n.book n.names n.log) c.generation-generation.ensures c.place.ensures.of) i.at;
  shown = i.shown;
  supply = c.keep.ensures.of c.self.inside.set.now.of.slab (vacant_back c.self.inside.set.now.of.slab c.generation-generation.result.now.of.slab c.args.number c.in-Found.right
      (ap (λ (v : GenerationView g.row.V.Denot). v.of.slab) c.generation-generation.ensures
      ∙ (at_shown g.L.Law.same g.L.Law.hash_of c.self.inside.set.now.of k.slot k.stages.book k.stages.names k.stages.log k.entries.book k.entries.names k.entries.log s i.shown i.at).0)
      c.requires.vacant.small back.1 back.2) i.supply;
}

pub invariant_of-self-in-Full : goal.invariant_of-self-in-Full
invariant_of-self-in-Full g c = let i = c.self.invariant in let k = c.self.inside.cursor in let s = c.self.inside.stage.now in let n = c.place.new.seen in let back = c.in-Full.ensures.back in record {
  at = at_more g.L.Law.same g.L.Law.hash_of c.self.inside.set.now.of k.slot k.stages.book k.stages.names k.stages.log k.entries.book k.entries.names k.entries.log n.book n.names n.log s i.shown
      (subst (λ (v : GenerationView g.row.V.Denot). IsOf g.L.Law.same g.L.Law.hash_of v.of n.book n.names n.log) c.generation-generation.ensures c.place.ensures.of) i.at;
  shown = i.shown;
  supply = c.keep-in-Full.ensures.of c.self.inside.set.now.of.slab (vacant_back c.self.inside.set.now.of.slab c.generation-generation.result.now.of.slab c.args.number c.in-Full.right
      (ap (λ (v : GenerationView g.row.V.Denot). v.of.slab) c.generation-generation.ensures
      ∙ (at_shown g.L.Law.same g.L.Law.hash_of c.self.inside.set.now.of k.slot k.stages.book k.stages.names k.stages.log k.entries.book k.entries.names k.entries.log s i.shown i.at).0)
      c.requires.vacant.small back.1 back.2) i.supply;
}

pub returns-in-Placed-clause-known : goal.returns-in-Placed-clause-known
returns-in-Placed-clause-known g c =
    subst (KnowsMore c.args.self.now) (sym c.count.ensures) (knows_longer c.self.inside.set.now.of c.args.self.now c.self.inside.cursor.entries.log c.place.new.seen.log c.self.view_is c.place.ensures.longer)

pub returns-in-Placed-clause-told : goal.returns-in-Placed-clause-told
returns-in-Placed-clause-told g c = let k = c.self.inside.cursor in let n = c.place.new.seen in let told = c.in-Placed.ensures.told in (
  told.0,
  subst (λ (x : KnownView g.row.V.Denot). IsPlaced g.L.Law.same c.args.number c.args.value c.args.self.now.history x.history) (sym c.count.ensures)
      (subst (λ (x : KnownView g.row.V.Denot). IsPlaced g.L.Law.same c.args.number c.args.value x.history n.log) c.self.view_is
      (placed_here g.L.Law.same g.L.Law.hash_of c.args.number c.args.value k.entries.log n.log told.1)),
)

pub returns-in-Placed-clause-receipt : goal.returns-in-Placed-clause-receipt
returns-in-Placed-clause-receipt g c = let i = c.self.invariant in let k = c.self.inside.cursor in let s = c.self.inside.stage.now in let back = c.in-Placed.ensures.back in (
  back.0
      ∙ (ap (λ (v : GenerationView g.row.V.Denot). v.of.slab) c.generation-generation.ensures
      ∙ (at_shown g.L.Law.same g.L.Law.hash_of c.self.inside.set.now.of k.slot k.stages.book k.stages.names k.stages.log k.entries.book k.entries.names k.entries.log s i.shown i.at).0
      ∙ sym (ap (λ (v : KnownView g.row.V.Denot). v.of.slab) c.count.ensures)),
  back.1,
  back.2 ∙ sym c.in-Placed.ensures.told.0,
)

pub returns-in-Found-clause-known : goal.returns-in-Found-clause-known
returns-in-Found-clause-known g c = knows_longer c.self.inside.set.now.of c.args.self.now c.self.inside.cursor.entries.log c.place.new.seen.log c.self.view_is c.place.ensures.longer

pub returns-in-Found-clause-told : goal.returns-in-Found-clause-told
returns-in-Found-clause-told g c = (c.in-Found.ensures.back.0, c.in-Found.ensures.told)

pub returns-in-Full-clause-known : goal.returns-in-Full-clause-known
returns-in-Full-clause-known g c = knows_longer c.self.inside.set.now.of c.args.self.now c.self.inside.cursor.entries.log c.place.new.seen.log c.self.view_is c.place.ensures.longer

pub returns-in-Full-clause-told : goal.returns-in-Full-clause-told
returns-in-Full-clause-told g c = let e = c.in-Full.ensures in (
  e.back.0,
  e.told,
  no_bucket_in g.L.Law.same g.L.Law.hash_of c.generation-generation.result.now.of.size c.args.value c.place.new.seen.log e.of.2 e.full,
)
