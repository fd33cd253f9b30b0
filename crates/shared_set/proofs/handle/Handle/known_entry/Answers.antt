use Rattle.std.proofs.Common.{ap, sym, subst, ◌∙◌}
use Rattle.table_numbered.specs.Words.{numbered}
use Rattle.table_numbered.specs.History.{IsEntry}
use Rattle.table_numbered.specs.Generations.{GenerationView, IsOf}
use Rattle.shared_set.specs.Known.{SharedView, KnownView}
use Rattle.shared_set.proofs.Keeping.{one_set, at_shown}
use Rattle.shared_set.proofs.handle.Handle.known_entry.Goals as goal

pub entry-requires-clause-slab : goal.entry-requires-clause-slab
entry-requires-clause-slab g c = let i = c.self.invariant in let k = c.self.inside.cursor in let s = c.self.inside.stage.now in
    ap (λ (x : SharedView). x.slab) (one_set c.set.view_is)
    ∙ (sym (at_shown g.L.Law.same g.L.Law.hash_of c.self.inside.set.now.of k.slot k.stages.book k.stages.names k.stages.log k.entries.book k.entries.names k.entries.log s i.shown i.at).0
    ∙ ap (λ (v : GenerationView g.row.V.Denot). v.of.slab) (sym c.generation-generation.ensures))

pub entry-requires-clause-of : goal.entry-requires-clause-of
entry-requires-clause-of g c = let i = c.self.invariant in let k = c.self.inside.cursor in let s = c.self.inside.stage.now in
    subst (λ (v : GenerationView g.row.V.Denot). IsOf g.L.Law.same g.L.Law.hash_of v.of k.entries.book k.entries.names k.entries.log) (sym c.generation-generation.ensures)
    (at_shown g.L.Law.same g.L.Law.hash_of c.self.inside.set.now.of k.slot k.stages.book k.stages.names k.stages.log k.entries.book k.entries.names k.entries.log s i.shown i.at).1

pub returns-clause-one : goal.returns-clause-one
returns-clause-one g c x there = c.entry.ensures.one x (subst (λ (v : KnownView g.row.V.Denot). IsEntry v.history (numbered c.args.number x)) (sym c.self.view_is) there)
