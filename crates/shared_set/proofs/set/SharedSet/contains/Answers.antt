use Rattle.table_numbered.specs.Words.{of_value}
use Rattle.shared_set.proofs.Keeping.{keeps_trans, none_before}
use Rattle.shared_set.proofs.set.SharedSet.contains.Goals as goal

pub returns : goal.returns
returns g c = let old = c.handle-handle.result.history in let new = c.contains.new.self.history in
    let keeps = keeps_trans c.args.self.now.known old new c.handle-handle.ensures.keeps c.contains.ensures.known.1 in
    record { none = λ is. none_before (of_value (g.L.Law.same c.args.target.now)) c.args.self.now.known new keeps (c.contains.ensures.none is) }
