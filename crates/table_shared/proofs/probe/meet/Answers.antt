use Rattle.std.proofs.Common.{◌≡◌, subst, sym, true}
use Rattle.table_core.specs.Calls.{fits}
use Rattle.table_core.specs.declared.call.Answer.{Answer}
use Rattle.table_core.proofs.ByPhase.{accepted_fits, passed_fits}
use Rattle.table_shared.proofs.probe.meet.Goals as goal

pub step-requires : goal.step-requires
step-requires g c = record { fits = accepted_fits c.args.state c.requires.meets c.requires.stands }

pub step-requires-2 : goal.step-requires-2
step-requires-2 g c =
    let s = c.args.state in
    record { fits = subst (λ (a : Answer). fits s.phase s a ≡ true) (sym c.passed.ensures) (passed_fits s c.is_some-asked.result c.requires.meets c.requires.stands) }
