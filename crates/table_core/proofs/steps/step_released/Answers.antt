use Rattle.std.proofs.Common.{◌≡◌, ◌∙◌, ap, subst, sym, true}
use Rattle.table_core.specs.Calls.{decided, fits}
use Rattle.table_core.specs.declared.call.Answer.{Answer}
use Rattle.table_core.specs.declared.call.CallState.{CallState}
use Rattle.table_core.specs.RunningSteps.{Went, Leaving}
use Rattle.table_core.proofs.ByPhase.{leaves_by, release_fits}
use Rattle.table_core.proofs.steps.step_released.Goals as goal

pub step-requires : goal.step-requires
step-requires c =
    let s = c.args.state in
    record { fits = subst (λ (a : Answer). fits s.phase s a ≡ true) (sym c.released.ensures) (release_fits s c.args.still_current c.requires.leaves) }

pub returns-clause-went : goal.returns-clause-went
returns-clause-went c = subst (λ (a : Answer). Went c.args.state c.step.result a) c.released.ensures c.step.ensures.went

pub returns-clause-leaving : goal.returns-clause-leaving
returns-clause-leaving c =
    let s = c.args.state in
    subst (λ (t : CallState). Leaving s t) (sym (c.step.ensures.decided ∙ ap (λ (a : Answer). decided s.phase s a) c.released.ensures)) (leaves_by s c.args.still_current c.requires.leaves c.requires.had)
