use Rattle.std.proofs.Common.{ap, ◌≡◌, ◌∙◌, sym, [], Some}
use Rattle.std.specs.Prelude.{slice_set}
use Rattle.std.specs.List.{slice_get}
use Rattle.table_core.specs.Calls.{Call}
use Rattle.table_core.specs.Replies.{ReplyWalk}
use Rattle.table_core.specs.Machine.{kept_list, reply_at_end}
use Rattle.table_core.proofs.Lists.{get-set_same}
use Rattle.table_core.proofs.CodeCalls.{call_within}
use Rattle.table_core.proofs.CodeSteps.{set_set, still_within}
use Rattle.table_core.proofs.machine.end_walk.Goals as goal

pub take_list-requires : goal.take_list-requires
take_list-requires g c =
    let g = call_within c.args.calls.now c.args.at c.requires in
    still_within c.args.calls.now c.set_state.new.self c.args.at _ (c.set_state.ensures g.0 g.1) c.requires

pub returns-in-Done-clause-left : goal.returns-in-Done-clause-left
returns-in-Done-clause-left g c = λ d h.
    let e = c.set_state.ensures d h in
    let x : Call = record d { state = c.args.next } in
    let u : slice_get c.set_state.new.self c.args.at ≡ Some x = rw e (get-set_same c.args.calls.now c.args.at d x h) in
    c.take_list.ensures.left x u ∙ ap (λ z. slice_set z c.args.at (record x { list = [] })) e ∙ set_set c.args.calls.now c.args.at x _
    ∙ ap (λ list. slice_set c.args.calls.now c.args.at (record x { list = list })) (ap (λ p. kept_list p d.list) (sym c.in-Done.is))

pub returns-in-Done-clause-reply : goal.returns-in-Done-clause-reply
returns-in-Done-clause-reply g c = λ d h.
    let x : Call = record d { state = c.args.next } in
    let u : slice_get c.set_state.new.self c.args.at ≡ Some x = rw (c.set_state.ensures d h) (get-set_same c.args.calls.now c.args.at d x h) in
    ap (λ list. Some (ReplyWalk list)) (c.take_list.ensures.list x u) ∙ ap (λ p. reply_at_end p (Some (ReplyWalk d.list))) (sym c.in-Done.is)
