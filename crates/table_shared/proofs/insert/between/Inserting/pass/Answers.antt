use Rattle.std.proofs.Common.{refl, subst, sym}
use Rattle.table_core.specs.declared.call.Answer.{Answer}
use Rattle.table_core.specs.RunningSteps.{Went}
use Rattle.table_shared.proofs.Between.{meets_carries, passes}
use Rattle.table_shared.proofs.Stepping.{carries_on}
use Rattle.table_shared.proofs.insert.between.Inserting.pass.Goals as goal

pub invariant_of-self : goal.invariant_of-self
invariant_of-self g c = record { between = passes c.args.self.now.between c.args.next c.requires.phase c.requires.passing }

pub returns-clause-steps : goal.returns-clause-steps
returns-clause-steps g c =
    carries_on g.E.Fn _ _ _ (subst (λ (a : Answer). Went c.args.self.now.state c.args.next a) (sym c.passed.ensures) c.requires.went)
    (meets_carries c.args.self.now.between c.requires.phase) refl refl
