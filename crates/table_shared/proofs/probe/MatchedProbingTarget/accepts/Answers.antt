use Rattle.std.proofs.Common.{refl, subst}
use Rattle.std.specs.Fn.{FnReturnsAtPair}
use Rattle.std.proofs.lemmas.Fn.{says_at_two}
use Rattle.table_shared.proofs.probe.MatchedProbingTarget.accepts.Goals as goal

pub returns : goal.returns
returns g c = subst (λ x. FnReturnsAtPair g.E.Fn c.args.self.now.eq.now x c.args.target.now c.eq.result) c.deref.ensures (says_at_two g.E.Fn c.eq.ensures refl)
