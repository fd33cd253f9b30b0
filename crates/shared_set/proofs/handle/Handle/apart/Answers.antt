use Rattle.std.proofs.Common.{subst}
use Rattle.table_numbered.specs.History.{OneValue}
use Rattle.shared_set.specs.Apart.{AreApart, AreNumbers}
use Rattle.shared_set.specs.Known.{KnownView}
use Rattle.shared_set.proofs.handle.Handle.apart.Goals as goal

pub returns-clause-entries : goal.returns-clause-entries
returns-clause-entries g c = subst (λ (v : KnownView g.row.V.Denot). AreApart g.L.Law.same v.history) c.tell.ensures c.apart-2.ensures.entries

pub returns-clause-values : goal.returns-clause-values
returns-clause-values g c = subst (λ (v : KnownView g.row.V.Denot). OneValue v.history) c.tell.ensures c.apart-2.ensures.values

pub returns-clause-numbers : goal.returns-clause-numbers
returns-clause-numbers g c = subst (λ (v : KnownView g.row.V.Denot). AreNumbers v.history) c.tell.ensures c.apart-2.ensures.numbers
