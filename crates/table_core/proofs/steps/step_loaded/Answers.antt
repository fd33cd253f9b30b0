use Rattle.std.proofs.Common.{subst, sym}
use Rattle.table_core.specs.declared.call.Answer.TheVariants.{Loaded}
use Rattle.table_core.specs.declared.call.CallState.{CallState}
use Rattle.table_core.specs.RunningSteps.{Starting, Went}
use Rattle.table_core.proofs.ByPhase.{loaded_by, power_some, starts_masked}
use Rattle.table_core.proofs.steps.step_loaded.Goals as goal

pub returns-clause-went : goal.returns-clause-went
returns-clause-went c =
    let s = c.args.state in
    let same = starts_masked s c.step-started.result c.args.number c.args.capacity c.first_bucket.result c.requires.phase c.step-started.ensures.decided c.first_bucket.ensures.first in
    subst (λ (t : CallState). Went s t (Loaded c.args.number c.args.capacity)) (sym same) c.step-started.ensures.went

pub returns-clause-starting : goal.returns-clause-starting
returns-clause-starting c =
    let s = c.args.state in
    let some = power_some c.args.capacity c.requires.power in
    let same = starts_masked s c.step-started.result c.args.number c.args.capacity c.first_bucket.result c.requires.phase c.step-started.ensures.decided c.first_bucket.ensures.first in
    subst (λ (t : CallState). Starting s t c.args.number c.args.capacity) (sym same)
    (subst (λ (t : CallState). Starting s t c.args.number c.args.capacity) (sym c.step-started.ensures.decided) (loaded_by s c.args.number c.args.capacity c.requires.phase some))
