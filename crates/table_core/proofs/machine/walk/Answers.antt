use Rattle.std.proofs.Common.{ap, ◌≡◌, ◌∙◌, sym, Some}
use Rattle.table_core.specs.Calls.{Call}
use Rattle.table_core.proofs.CodeSteps.{walk_moves, walk_tells_now, still_within}
use Rattle.table_core.proofs.machine.walk.Goals as goal

pub end_walk-requires : goal.end_walk-requires
end_walk-requires g c = still_within c.args.calls.now c.list_entry.new.calls c.args.at _ (c.in_ok-list_entry.ensures.ok c.get.result.now c.get.ensures) c.requires.within

pub returns-clause-ok : goal.returns-clause-ok
returns-clause-ok g c = λ d h.
    let same : c.get.result.now ≡ d = (let z : Some c.get.result.now ≡ Some d = sym c.get.ensures ∙ h in cc) in
    let s : c.state-state.result ≡ d.state = c.state-state.ensures ∙ ap (λ (x : Call). x.state) same in
    let w = c.requires.walking d h in
    walk_moves c.args.table.now c.args.calls.now c.list_entry.new.calls c.end_walk.new.calls c.args.at d c.args.answer c.state-state.result c.decide.result c.entry_shown-entry.result
    h w.0 w.1 s c.entry_shown-entry.ensures c.decide.ensures (c.in_ok-list_entry.ensures.ok d h) c.end_walk.ensures.left

pub returns-clause-reply : goal.returns-clause-reply
returns-clause-reply g c = λ d h.
    let same : c.get.result.now ≡ d = (let z : Some c.get.result.now ≡ Some d = sym c.get.ensures ∙ h in cc) in
    let s : c.state-state.result ≡ d.state = c.state-state.ensures ∙ ap (λ (x : Call). x.state) same in
    let w = c.requires.walking d h in
    walk_tells_now c.args.table.now c.args.calls.now c.list_entry.new.calls c.args.at d c.args.answer c.state-state.result c.decide.result c.entry_shown-entry.result c.end_walk.result
    h w.0 w.1 s c.entry_shown-entry.ensures c.decide.ensures (c.in_ok-list_entry.ensures.ok d h) c.end_walk.ensures.reply
