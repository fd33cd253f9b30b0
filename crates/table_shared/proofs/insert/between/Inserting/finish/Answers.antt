use Rattle.std.proofs.Common.{ap, refl, subst}
use Rattle.table_shared.specs.Carried.{IsAnswer, met_in}
use Rattle.table_shared.proofs.Stepping.{ends}
use Rattle.table_shared.proofs.insert.between.Inserting.finish.Goals as goal

pub returns : goal.returns
returns g c = ends g.E.Fn _ _ _ c.requires.over c.requires.there c.requires.asks.heard (subst (λ x. IsAnswer x c.into_answer.result) c.replace.ensures.value c.into_answer.ensures) refl refl (ap met_in c.replace.ensures.after)
