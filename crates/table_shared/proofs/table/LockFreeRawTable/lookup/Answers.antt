use Rattle.std.proofs.Common.{◌≡◌, ◌∙◌, Bool, ap, inr, rules, sym}
use Rattle.table_core.specs.declared.call.CallState.{CallState}
use Rattle.table_core.specs.declared.call.Phase.TheVariants.{LookLoad, LookProbe}
use Rattle.table_core.specs.RunningSteps.{passed}
use Rattle.table_shared.specs.Reads.{Takes}
use Rattle.table_shared.proofs.LooksOn.{look_passes, look_starts}
use Rattle.table_shared.proofs.Takes.{looks_past_entry}
use Rattle.table_shared.proofs.table.LockFreeRawTable.lookup.Goals as goal

pub step_loaded-state-requires : goal.step_loaded-state-requires
step_loaded-state-requires g c = record {
  phase = inr (ap (λ (t : CallState). t.phase) c.lookup.ensures);
  power = rw c.capacity-capacity.ensures c.in_ok-current.ensures.power;
}

pub loop-current-init : goal.loop-current-init
loop-current-init g c =
    let on : c.step_loaded-state.result.phase ≡ LookProbe = c.step_loaded-state.ensures.look (ap (λ (t : CallState). t.phase) c.lookup.ensures) in
    record {
      loaded = λ e. absurd (let no : LookProbe ≡ LookLoad = sym on ∙ e in cc);
      between =
          look_starts c.args.self.now.home c.lookup.result c.step_loaded-state.result c.in_ok-current.current.number c.in_ok-current.current.generation (ap (λ (t : CallState). t.outcome) c.lookup.ensures) on
          (rw c.capacity-capacity.ensures at c.step_loaded-state.ensures.starting) c.in_ok-current.ensures.home;
    }

-- the next state, with its phase spelt out, is where the step came to
spelt : (s next here : CallState) (asked : Bool) → here ≡ next → Takes s next (passed asked) → Takes s here (passed asked)
spelt s next here asked is takes = rw is takes

pub loop-current-preserved : goal.loop-current-preserved
loop-current-preserved g c =
    let at : c.loop-current.state.phase ≡ LookProbe = search rules in
    let b = c.loop-current.invariant.between in
    let reads = spelt c.loop-current.state c.in-Passed.next c.probing_on-state.result c.in-Passed.field-1 c.probing_on-state.ensures.same c.in-Passed.ensures.reads in
    record {
      loaded = (looks_past_entry c.loop-current.state c.probing_on-state.result c.in-Passed.field-1 at (b.stands at) reads).started;
      between = look_passes b c.probing_on-state.result c.in-Passed.field-1 at reads;
    }

pub loop-current-smaller : goal.loop-current-smaller
loop-current-smaller g c =
    let at : c.loop-current.state.phase ≡ LookProbe = search rules in
    let reads = spelt c.loop-current.state c.in-Passed.next c.probing_on-state.result c.in-Passed.field-1 c.probing_on-state.ensures.same c.in-Passed.ensures.reads in
    (looks_past_entry c.loop-current.state c.probing_on-state.result c.in-Passed.field-1 at (c.loop-current.invariant.between.stands at) reads).less
