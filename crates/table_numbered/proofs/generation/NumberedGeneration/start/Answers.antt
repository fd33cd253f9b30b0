use Rattle.std.proofs.Common.{sym, ap, subst}
use Rattle.table_numbered.specs.History.{IsWhole}
use Rattle.table_numbered.specs.Generations.{SetView, IsOf}
use Rattle.table_numbered.proofs.Known.{of_known}
use Rattle.table_numbered.proofs.generation.NumberedGeneration.start.Goals as goal

pub returns-clause-of : goal.returns-clause-of
returns-clause-of g c = let e = c.begin.ensures in let r = c.begin.result in
    subst (λ (t : SetView). IsOf g.L.Law.same g.L.Law.hash_of t r.book r.names r.log) (ap (λ x. x.of) c.self.view_is)
    (of_known g.L.Law.same g.L.Law.hash_of c.self.inside.row.of r.book r.names r.log e.known (subst IsWhole (sym e.log) c.self.invariant.0))
