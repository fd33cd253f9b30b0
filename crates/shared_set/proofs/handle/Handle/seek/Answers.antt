use Rattle.std.proofs.Common.{ap, sym, subst, ◌∙◌, refl}
use Rattle.table_numbered.specs.Generations.{GenerationView, IsOf}
use Rattle.shared_set.specs.Known.{SharedView, known_view, KnowsMore}
use Rattle.shared_set.proofs.Keeping.{one_set, keeps_longer, knows_trans, at_shown, at_more}
use Rattle.shared_set.proofs.handle.Handle.seek.Goals as goal

pub seek-requires-clause-slab : goal.seek-requires-clause-slab
seek-requires-clause-slab g c = let i = c.self.invariant in let k = c.self.inside.cursor in let s = c.self.inside.stage.now in
    ap (λ (x : SharedView). x.slab) (one_set c.set.view_is)
    ∙ (sym (at_shown g.L.Law.same g.L.Law.hash_of c.self.inside.set.now.of k.slot k.stages.book k.stages.names k.stages.log k.entries.book k.entries.names k.entries.log s i.shown i.at).0
    ∙ ap (λ (v : GenerationView g.row.V.Denot). v.of.slab) (sym c.generation-generation.ensures))

pub seek-requires-clause-of : goal.seek-requires-clause-of
seek-requires-clause-of g c = let i = c.self.invariant in let k = c.self.inside.cursor in let s = c.self.inside.stage.now in
    subst (λ (v : GenerationView g.row.V.Denot). IsOf g.L.Law.same g.L.Law.hash_of v.of k.entries.book k.entries.names k.entries.log) (sym c.generation-generation.ensures)
    (at_shown g.L.Law.same g.L.Law.hash_of c.self.inside.set.now.of k.slot k.stages.book k.stages.names k.stages.log k.entries.book k.entries.names k.entries.log s i.shown i.at).1

pub invariant_of-self : goal.invariant_of-self
invariant_of-self g c = let i = c.self.invariant in let k = c.self.inside.cursor in let s = c.self.inside.stage.now in let n = c.seek.new.seen in record {
  at = at_more g.L.Law.same g.L.Law.hash_of c.self.inside.set.now.of k.slot k.stages.book k.stages.names k.stages.log k.entries.book k.entries.names k.entries.log n.book n.names n.log s i.shown
      (subst (λ (v : GenerationView g.row.V.Denot). IsOf g.L.Law.same g.L.Law.hash_of v.of n.book n.names n.log) c.generation-generation.ensures c.seek.ensures.of) i.at;
  shown = i.shown;
  supply = i.supply;
}

pub returns-clause-known : goal.returns-clause-known
returns-clause-known g c = let k = c.self.inside.cursor in let n = c.seek.new.seen in let g1 = c.self.inside.set.now.of in
    knows_trans c.args.self.now (known_view g1 k.entries.log) (known_view g1 n.log) (subst (KnowsMore c.args.self.now) (sym c.self.view_is) c.advance.ensures.known) (refl, keeps_longer k.entries.log n.log c.seek.ensures.longer)
