use Rattle.std.proofs.Common.{refl, subst, sym}
use Rattle.table_core.specs.declared.call.Answer.{Answer}
use Rattle.table_core.specs.RunningSteps.{Went}
use Rattle.table_shared.proofs.Between.{leaves_carries, lets_go}
use Rattle.table_shared.proofs.Stepping.{carries_on}
use Rattle.table_shared.proofs.insert.between.Inserting.leave.Goals as goal

pub step_released-self-requires : goal.step_released-self-requires
step_released-self-requires g c = record { leaves = c.requires.phase; had = (c.args.self.now.between.hopes, c.args.self.now.between.wide) }

pub invariant_of-self : goal.invariant_of-self
invariant_of-self g c = record { between = lets_go c.args.self.now.between c.step_released-self.result c.requires.phase c.step_released-self.ensures.leaving }

pub returns : goal.returns
returns g c =
    carries_on g.E.Fn _ _ _ (subst (λ (a : Answer). Went c.args.self.now.state c.step_released-self.result a) (sym c.released-answer.ensures) c.step_released-self.ensures.went)
    (leaves_carries c.args.self.now.between c.requires.phase) refl refl
