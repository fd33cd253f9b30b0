use Rattle.std.proofs.Common.{ℕ, refl, sym, subst}
use Rattle.table_chain.specs.History as chain
use Rattle.table_chain.proofs.Chained as chained
use Rattle.shared_set.specs.Stages.{Begins, GrowsInto}
use Rattle.shared_set.specs.Known.{KnownView, known_view, KnowsMore}
use Rattle.shared_set.proofs.handle.Handle.follow.Goals as goal

pub invariant_of-self-in-None : goal.invariant_of-self-in-None
invariant_of-self-in-None g c = let i = c.self.invariant in let new = c.step.new.cursor in record {
  at = c.step.ensures.at;
  shown = subst (λ (n : ℕ). chain.Stands new.stages.log n c.self.inside.stage.now) (sym c.in-None.ensures.stepped.0)
      (chained.stands_on (Begins g.L.Law.same g.L.Law.hash_of) (GrowsInto g.L.Law.same g.L.Law.hash_of) c.self.inside.cursor.stages.log new.stages.log c.self.inside.cursor.slot c.self.inside.stage.now c.step.ensures.longer i.shown);
  supply = i.supply;
}

pub returns-in-Some : goal.returns-in-Some
returns-in-Some g c = record {
  known = subst (λ (x : KnownView g.row.V.Denot). KnowsMore x (known_view c.self.inside.set.now.of c.step.new.cursor.entries.log)) c.self.view_is (refl, c.step.ensures.keeps);
}
