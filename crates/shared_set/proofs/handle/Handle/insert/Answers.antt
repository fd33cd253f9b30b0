use Rattle.std.proofs.Common.{refl, subst, ◌∙◌, arith, inl, inr}
use Rattle.table_numbered.specs.Words.{of_value}
use Rattle.table_numbered.specs.History.{IsEntry, NonePasses}
use Rattle.shared_set.specs.Inserting.{HasNoBucket}
use Rattle.shared_set.proofs.Keeping.{knows_trans}
use Rattle.shared_set.proofs.Placing.{inserts_after}
use Rattle.shared_set.proofs.handle.Handle.insert.Goals as goal

pub loop-tried-init : goal.loop-tried-init
loop-tried-init g c = record { known = (refl, λ e there. there); value = refl; full = inl refl }

pub returns-clause-told : goal.returns-clause-told
returns-clause-told g c = elim c.loop-tried.invariant.full [
  | inl zero ↦ absurd (omega (arith, zero, c.loop-tried-test.false))
  | inr full ↦ (c.loop-tried.invariant.value, full.0, inr full.1)
]

pub returns-in-Done-clause-told : goal.returns-in-Done-clause-told
returns-in-Done-clause-told g c = let i = c.loop-tried.invariant in
    inserts_after g.L.Law.same g.L.Law.hash_of c.in-Done.inserted c.args.value c.loop-tried.value c.args.self.now.history c.loop-tried.self.history c.insert_or_grow.new.self.history i.value i.known.1 c.in-Done.ensures.told

pub loop-tried-preserved : goal.loop-tried-preserved
loop-tried-preserved g c = let i = c.loop-tried.invariant in let h = c.insert_or_grow.new.self in let told = c.in-Full.ensures.told in record {
  known = knows_trans c.args.self.now c.loop-tried.self h i.known c.insert_or_grow.ensures.known;
  value = told.0 ∙ i.value;
  full = inr (subst (λ (x : g.row.V.Denot). NonePasses (of_value (g.L.Law.same x)) (IsEntry h.history) × HasNoBucket g.L.Law.same g.L.Law.hash_of x h.history) i.value (told.1, told.2));
}
