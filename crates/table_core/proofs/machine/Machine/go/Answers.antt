use Rattle.std.proofs.Common.{◌≡◌, ap, subst, sym, ◌∙◌, Some}
use Rattle.std.specs.List.{slice_get}
use Rattle.table_core.specs.Calls.{decide}
use Rattle.table_core.specs.Machine.{World, changed, reply}
use Rattle.table_core.specs.Reached.{IsReached}
use Rattle.table_core.specs.declared.call.CallState.{CallState}
use Rattle.table_core.proofs.CodeFits.{found_fits, found_changes, same_call, found_at, go_walk, go_told, go_other}
use Rattle.table_core.proofs.machine.Machine.go.Goals as goal

pub tell-reply-requires : goal.tell-reply-requires
tell-reply-requires g c =
    let w : World = record { table = c.self.inside.table; calls = c.self.inside.calls } in
    let t = found_at w c.args.self.now c.args.at c.get.result.now c.get-call.result.now _ c.args.event _ c.in-Some.answer c.self.view_is c.get.ensures c.state-state.ensures c.answer.ensures c.in-Some.is c.get-call.ensures in
    record {
      other = λ e. c.in_default-phase.not-WalkAt (ap (λ (x : CallState). x.phase) t.0 ∙ e);
      fitting = found_fits w c.args.at c.get-call.result.now c.args.event c.in-Some.answer (subst IsReached (sym c.self.view_is) c.requires.reached) c.get-call.ensures t.1;
      next = c.decide-next.ensures ∙ ap (λ x. decide x c.in-Some.answer) t.0;
    }

pub change-requires : goal.change-requires
change-requires g c =
    let w : World = record { table = c.self.inside.table; calls = c.self.inside.calls } in
    let t = found_at w c.args.self.now c.args.at c.get.result.now c.get-call.result.now _ c.args.event _ c.in-Some.answer c.self.view_is c.get.ensures c.state-state.ensures c.answer.ensures c.in-Some.is c.get-call.ensures in
    found_changes w c.args.at c.get-call.result.now c.args.event c.in-Some.answer (subst IsReached (sym c.self.view_is) c.requires.reached) c.get-call.ensures t.1

pub walk-requires-clause-walking : goal.walk-requires-clause-walking
walk-requires-clause-walking g c = λ d h.
    let w : World = record { table = c.self.inside.table; calls = c.self.inside.calls } in
    let t = found_at w c.args.self.now c.args.at c.get.result.now d _ c.args.event _ c.in-Some.answer c.self.view_is c.get.ensures c.state-state.ensures c.answer.ensures c.in-Some.is h in (
      ap (λ (x : CallState). x.phase) (sym t.0) ∙ c.in-WalkAt.is,
      found_fits w c.args.at d c.args.event c.in-Some.answer (subst IsReached (sym c.self.view_is) c.requires.reached) h t.1,
    )

pub returns-in-WalkAt : goal.returns-in-WalkAt
returns-in-WalkAt g c =
    let w : World = record { table = c.self.inside.table; calls = c.self.inside.calls } in
    record {
      ok = λ d h.
          let k : slice_get w.calls c.args.at ≡ Some d = ap (λ (z : World). slice_get z.calls c.args.at) c.self.view_is ∙ h in
          let t = found_at w c.args.self.now c.args.at c.get.result.now d _ c.args.event _ c.in-Some.answer c.self.view_is c.get.ensures c.state-state.ensures c.answer.ensures c.in-Some.is k in
          go_walk w c.args.self.now c.args.at d c.args.event c.in-Some.answer c.walk.new.calls c.self.view_is
          (ap (λ (x : CallState). x.phase) (sym t.0) ∙ c.in-WalkAt.is) t.1 (c.in_ok-reply.ensures.ok d k);
      reply = λ d h.
          let k : slice_get w.calls c.args.at ≡ Some d = ap (λ (z : World). slice_get z.calls c.args.at) c.self.view_is ∙ h in
          let t = found_at w c.args.self.now c.args.at c.get.result.now d _ c.args.event _ c.in-Some.answer c.self.view_is c.get.ensures c.state-state.ensures c.answer.ensures c.in-Some.is k in
          go_told w c.args.self.now d c.args.event c.in-Some.answer _ c.self.view_is t.1 (c.in_ok-reply.ensures.reply d k);
      err = tt;
      asks = λ d h. tt;
    }

pub returns : goal.returns
returns g c =
    let w : World = record { table = c.self.inside.table; calls = c.self.inside.calls } in
    record {
      ok = λ d h.
          let k : slice_get w.calls c.args.at ≡ Some d = ap (λ (z : World). slice_get z.calls c.args.at) c.self.view_is ∙ h in
          let same = same_call w.calls c.args.at c.get-call.result.now d c.get-call.ensures k in
          let t = found_at w c.args.self.now c.args.at c.get.result.now d _ c.args.event _ c.in-Some.answer c.self.view_is c.get.ensures c.state-state.ensures c.answer.ensures c.in-Some.is k in
          go_other w c.args.self.now c.args.at d c.args.event c.in-Some.answer c.change.new.table c.set_state.new.self c.decide-next.result c.self.view_is
          (λ e. c.in_default-phase.not-WalkAt (ap (λ (x : CallState). x.phase) t.0 ∙ e)) t.1
          (found_fits w c.args.at d c.args.event c.in-Some.answer (subst IsReached (sym c.self.view_is) c.requires.reached) k t.1)
          (c.in_ok-change.ensures.ok ∙ ap (λ x. changed c.self.inside.table x c.args.event c.in-Some.answer) same)
          (c.decide-next.ensures ∙ ap (λ x. decide x c.in-Some.answer) t.0) (c.set_state.ensures d k);
      reply = λ d h.
          let k : slice_get w.calls c.args.at ≡ Some d = ap (λ (z : World). slice_get z.calls c.args.at) c.self.view_is ∙ h in
          let same = same_call w.calls c.args.at c.get-call.result.now d c.get-call.ensures k in
          let t = found_at w c.args.self.now c.args.at c.get.result.now d _ c.args.event _ c.in-Some.answer c.self.view_is c.get.ensures c.state-state.ensures c.answer.ensures c.in-Some.is k in
          go_told w c.args.self.now d c.args.event c.in-Some.answer _ c.self.view_is t.1 (c.tell-reply.ensures ∙ ap (λ x. reply c.self.inside.table x c.in-Some.answer) same);
      err = tt;
      asks = λ d h. tt;
    }
