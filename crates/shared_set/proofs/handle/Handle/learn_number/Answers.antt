use Rattle.std.proofs.Common.{sym, subst, refl}
use mathlib.Core.List.{IsPrefix}
use Rattle.table_numbered.specs.Generations.{GenerationView, IsOf}
use Rattle.shared_set.specs.Known.{KnownView, known_view, KnowsMore}
use Rattle.shared_set.proofs.Keeping.{keeps_longer, at_shown, at_more}
use Rattle.shared_set.proofs.handle.Handle.learn_number.Goals as goal

pub has_number-there-requires : goal.has_number-there-requires
has_number-there-requires g c = let i = c.self.invariant in let k = c.self.inside.cursor in let s = c.self.inside.stage.now in let t = c.again-seen.result in
    record {
      of = subst (λ (v : GenerationView g.row.V.Denot). IsOf g.L.Law.same g.L.Law.hash_of v.of t.book t.names t.log) (sym c.generation-generation.ensures)
          (subst (λ x. IsOf g.L.Law.same g.L.Law.hash_of s.of.of x.book x.names x.log) (sym c.again-seen.ensures)
          (at_shown g.L.Law.same g.L.Law.hash_of c.self.inside.set.now.of k.slot k.stages.book k.stages.names k.stages.log k.entries.book k.entries.names k.entries.log s i.shown i.at).1);
    }

pub invariant_of-self : goal.invariant_of-self
invariant_of-self g c = let i = c.self.invariant in let k = c.self.inside.cursor in let s = c.self.inside.stage.now in let n = c.has_number-there.new.seen in record {
  at = at_more g.L.Law.same g.L.Law.hash_of c.self.inside.set.now.of k.slot k.stages.book k.stages.names k.stages.log k.entries.book k.entries.names k.entries.log n.book n.names n.log s i.shown
      (subst (λ (v : GenerationView g.row.V.Denot). IsOf g.L.Law.same g.L.Law.hash_of v.of n.book n.names n.log) c.generation-generation.ensures c.has_number-there.ensures.of) i.at;
  shown = i.shown;
  supply = i.supply;
}

pub returns-then-there-clause-known : goal.returns-then-there-clause-known
returns-then-there-clause-known g c = let k = c.self.inside.cursor in let n = c.has_number-there.new.seen in
    subst (λ (x : KnownView g.row.V.Denot). KnowsMore x (known_view c.self.inside.set.now.of n.log)) c.self.view_is
    (refl, keeps_longer k.entries.log n.log (subst (λ x. IsPrefix x.log n.log) c.again-seen.ensures c.has_number-there.ensures.longer))
