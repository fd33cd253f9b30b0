use Rattle.std.proofs.Common.{ap, sym, subst, ◌∙◌, refl}
use Rattle.table_numbered.specs.Generations.{GenerationView, IsOf}
use Rattle.shared_set.specs.Known.{SharedView, known_view}
use Rattle.shared_set.specs.Supplies.{IsSupplyOf}
use Rattle.shared_set.proofs.Keeping.{one_set, knows_trans, at_shown, at_more}
use Rattle.shared_set.proofs.Placing.{knows_longer, bucket_in, no_bucket_in, here_after}
use Rattle.shared_set.proofs.handle.Handle.place_if_new.Goals as goal

pub probe-requires-clause-slab : goal.probe-requires-clause-slab
probe-requires-clause-slab g c = let i = c.self.invariant in let k = c.self.inside.cursor in let s = c.self.inside.stage.now in
    ap (λ (x : SharedView). x.slab) (one_set c.set.view_is)
    ∙ (sym (at_shown g.L.Law.same g.L.Law.hash_of c.self.inside.set.now.of k.slot k.stages.book k.stages.names k.stages.log k.entries.book k.entries.names k.entries.log s i.shown i.at).0
    ∙ ap (λ (v : GenerationView g.row.V.Denot). v.of.slab) (sym c.generation-generation.ensures))

pub probe-requires-clause-of : goal.probe-requires-clause-of
probe-requires-clause-of g c = let i = c.self.invariant in let k = c.self.inside.cursor in let s = c.self.inside.stage.now in
    subst (λ (v : GenerationView g.row.V.Denot). IsOf g.L.Law.same g.L.Law.hash_of v.of k.entries.book k.entries.names k.entries.log) (sym c.generation-generation.ensures)
    (at_shown g.L.Law.same g.L.Law.hash_of c.self.inside.set.now.of k.slot k.stages.book k.stages.names k.stages.log k.entries.book k.entries.names k.entries.log s i.shown i.at).1

pub invariant_of-self : goal.invariant_of-self
invariant_of-self g c = let i = c.self.invariant in let k = c.self.inside.cursor in let s = c.self.inside.stage.now in let n = c.probe.new.seen in record {
  at = at_more g.L.Law.same g.L.Law.hash_of c.self.inside.set.now.of k.slot k.stages.book k.stages.names k.stages.log k.entries.book k.entries.names k.entries.log n.book n.names n.log s i.shown
      (subst (λ (v : GenerationView g.row.V.Denot). IsOf g.L.Law.same g.L.Law.hash_of v.of n.book n.names n.log) c.generation-generation.ensures c.probe.ensures.of) i.at;
  shown = i.shown;
  supply = i.supply;
}

pub invariant_of-self-in-Full : goal.invariant_of-self-in-Full
invariant_of-self-in-Full g c = let i = c.self.invariant in let k = c.self.inside.cursor in let s = c.self.inside.stage.now in let n = c.probe.new.seen in record {
  at = at_more g.L.Law.same g.L.Law.hash_of c.self.inside.set.now.of k.slot k.stages.book k.stages.names k.stages.log k.entries.book k.entries.names k.entries.log n.book n.names n.log s i.shown
      (subst (λ (v : GenerationView g.row.V.Denot). IsOf g.L.Law.same g.L.Law.hash_of v.of n.book n.names n.log) c.generation-generation.ensures c.probe.ensures.of) i.at;
  shown = i.shown;
  supply = i.supply;
}

pub invariant_of-self-in-Ok : goal.invariant_of-self-in-Ok
invariant_of-self-in-Ok g c = let i = c.self.invariant in let k = c.self.inside.cursor in let s = c.self.inside.stage.now in let n = c.probe.new.seen in record {
  at = at_more g.L.Law.same g.L.Law.hash_of c.self.inside.set.now.of k.slot k.stages.book k.stages.names k.stages.log k.entries.book k.entries.names k.entries.log n.book n.names n.log s i.shown
      (subst (λ (v : GenerationView g.row.V.Denot). IsOf g.L.Law.same g.L.Law.hash_of v.of n.book n.names n.log) c.generation-generation.ensures c.probe.ensures.of) i.at;
  shown = i.shown;
  supply = subst (λ (x : SharedView). IsSupplyOf x.slab c.fetch.new.self) (one_set c.set.view_is) c.fetch.ensures.rest;
}

pub invariant_of-self-in-Err : goal.invariant_of-self-in-Err
invariant_of-self-in-Err g c = let i = c.self.invariant in let k = c.self.inside.cursor in let s = c.self.inside.stage.now in let n = c.probe.new.seen in record {
  at = at_more g.L.Law.same g.L.Law.hash_of c.self.inside.set.now.of k.slot k.stages.book k.stages.names k.stages.log k.entries.book k.entries.names k.entries.log n.book n.names n.log s i.shown
      (subst (λ (v : GenerationView g.row.V.Denot). IsOf g.L.Law.same g.L.Law.hash_of v.of n.book n.names n.log) c.generation-generation.ensures c.probe.ensures.of) i.at;
  shown = i.shown;
  supply = subst (λ (x : SharedView). IsSupplyOf x.slab c.fetch.new.self) (one_set c.set.view_is) c.fetch.ensures.rest;
}

pub returns-in-Found-clause-known : goal.returns-in-Found-clause-known
returns-in-Found-clause-known g c = knows_longer c.self.inside.set.now.of c.args.self.now c.self.inside.cursor.entries.log c.probe.new.seen.log c.self.view_is c.probe.ensures.longer

pub returns-in-Found-clause-told : goal.returns-in-Found-clause-told
returns-in-Found-clause-told g c = (refl, c.in-Found.ensures.finds)

pub returns-in-Full-clause-known : goal.returns-in-Full-clause-known
returns-in-Full-clause-known g c = knows_longer c.self.inside.set.now.of c.args.self.now c.self.inside.cursor.entries.log c.probe.new.seen.log c.self.view_is c.probe.ensures.longer

pub returns-in-Full-clause-told : goal.returns-in-Full-clause-told
returns-in-Full-clause-told g c = (
  refl,
  c.in-Full.ensures.finds,
  no_bucket_in g.L.Law.same g.L.Law.hash_of c.generation-generation.result.now.of.size c.args.value c.probe.new.seen.log c.probe.ensures.of.2 c.in-Full.ensures.ends,
)

pub returns-in-Err-clause-known : goal.returns-in-Err-clause-known
returns-in-Err-clause-known g c = knows_longer c.self.inside.set.now.of c.args.self.now c.self.inside.cursor.entries.log c.probe.new.seen.log c.self.view_is c.probe.ensures.longer

pub returns-in-Err-clause-told : goal.returns-in-Err-clause-told
returns-in-Err-clause-told g c = (
  refl,
  c.in-Vacant.ensures.finds,
  bucket_in g.L.Law.same g.L.Law.hash_of c.generation-generation.result.now.of.size c.args.value c.probe.new.seen.log c.probe.ensures.of.2 c.in-Vacant.ensures.ends,
)

pub returns-in-Ok-clause-known : goal.returns-in-Ok-clause-known
returns-in-Ok-clause-known g c = knows_trans c.args.self.now (known_view c.self.inside.set.now.of c.probe.new.seen.log) c.place.new.self
    (knows_longer c.self.inside.set.now.of c.args.self.now c.self.inside.cursor.entries.log c.probe.new.seen.log c.self.view_is c.probe.ensures.longer) c.place.ensures.known

pub returns-in-Ok-clause-told : goal.returns-in-Ok-clause-told
returns-in-Ok-clause-told g c = here_after g.L.Law.same g.L.Law.hash_of c.place.result c.args.value c.args.value c.args.self.now.history c.probe.new.seen.log c.place.new.self.history refl
    (knows_longer c.self.inside.set.now.of c.args.self.now c.self.inside.cursor.entries.log c.probe.new.seen.log c.self.view_is c.probe.ensures.longer).1 c.place.ensures.told
