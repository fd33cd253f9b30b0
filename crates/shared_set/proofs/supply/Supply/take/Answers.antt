use Rattle.std.proofs.Common.{sym, subst}
use Rattle.std.specs.Prelude.{IfSome}
use Rattle.shared_set.specs.Supplies.{IsVacant}
use Rattle.shared_set.proofs.Supplying.{vacant}
use Rattle.shared_set.proofs.supply.Supply.take.Goals as goal

pub returns-in-None-clause-number : goal.returns-in-None-clause-number
returns-in-None-clause-number g c s of = vacant s c.args.self.now.run c.take-in-None.result of.run c.take-in-None.ensures.number c.take-in-None.ensures.small c.take-in-None.ensures.empty

pub returns-in-None-clause-rest : goal.returns-in-None-clause-rest
returns-in-None-clause-rest g c s of = record {
  spare = subst (λ o. IfSome o (IsVacant s)) (sym c.take.ensures.after) tt;
  run = c.take-in-None.ensures.rest s of.run;
  want = of.want;
}
