use Rattle.std.proofs.Common.{subst}
use Rattle.table_numbered.specs.History.{OneValue}
use Rattle.shared_set.specs.Apart.{AreApart, AreNumbers}
use Rattle.shared_set.specs.Known.{KnownView}
use Rattle.shared_set.proofs.Distinct.{reached_apart, reached_numbers}
use Rattle.shared_set.proofs.known.Known.apart.Goals as goal

pub returns-clause-entries : goal.returns-clause-entries
returns-clause-entries g c = subst (λ (v : KnownView g.row.V.Denot). AreApart g.L.Law.same v.history) c.self.view_is
    (reached_apart g.L.Law.same g.L.Law.hash_of g.L.Law.lawful c.self.inside.cursor.entries.log c.self.invariant.of.3)

pub returns-clause-values : goal.returns-clause-values
returns-clause-values g c = subst (λ (v : KnownView g.row.V.Denot). OneValue v.history) c.self.view_is c.one_value.ensures

pub returns-clause-numbers : goal.returns-clause-numbers
returns-clause-numbers g c = subst (λ (v : KnownView g.row.V.Denot). AreNumbers v.history) c.self.view_is
    (reached_numbers g.L.Law.same g.L.Law.hash_of c.self.inside.cursor.entries.log c.self.invariant.of.3)
