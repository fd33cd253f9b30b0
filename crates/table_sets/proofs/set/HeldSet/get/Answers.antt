use Rattle.std.proofs.Common.{rules, sym, ◌∙◌}
use Rattle.table_sets.proofs.Listed.{finds, lawful_apart}
use Rattle.table_sets.proofs.set.HeldSet.get.Goals as goal

pub returns-clause-finds : goal.returns-clause-finds
returns-clause-finds g c = rw (← c.self.view_is, ← c.table.ensures.is)
    (finds g.T.AtomicValue.target g.L.Law.same g.L.Law.hash_of _ (g.L.Law.same c.args.target.now) c.table.result.now _ c.lookup_alone.result
    (λ x answer says. search rules) (λ x is. sym (g.L.Law.lawful.agrees _ _ is) ∙ sym c.hash.ensures) c.table.ensures.lawful c.lookup_alone.ensures.accepted c.lookup_alone.ensures.none)

pub returns-clause-apart : goal.returns-clause-apart
returns-clause-apart g c = rw (← c.self.view_is, ← c.table.ensures.is)
    (lawful_apart g.T.AtomicValue.target g.L.Law.same g.L.Law.hash_of c.table.result.now c.table.ensures.lawful)
