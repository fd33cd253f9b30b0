use Rattle.std.proofs.Common.{◌∙◌, ap, sym, ◌<◌, ◌≡◌, length, subst, List, refl, Some, arith}
use Rattle.std.specs.List.{slice_get}
use Rattle.std.proofs.lemmas.List.Sums.{count_by-le-length}
use Rattle.table_core.specs.Calls.{Call, holds_shared, holds_owned}
use Rattle.table_core.specs.declared.call.CallState.{CallState}
use Rattle.table_core.proofs.CodeCalls.{call_within, indexed_set, counted_among}
use Rattle.table_core.proofs.calls.Calls.set_state.Goals as goal

pub recount-self-inside-requires-clause-counted : goal.recount-self-inside-requires-clause-counted
recount-self-inside-requires-clause-counted g c =
    let lt : c.args.at < length c.self.inside.all.items = subst (λ (cs : List Call). c.args.at < length cs) (sym c.self.view_is) c.requires in
    let g = call_within c.self.inside.all.items c.args.at lt in
    let b : slice_get c.as_slice.result.now c.args.at ≡ Some g.0 = rw c.as_slice.ensures.value g.1 in
    counted_among (λ (d : Call). holds_shared d.state.phase) c.self.inside.all.items _ c.args.at g.0 _ c.self.invariant.shared g.1
    (c.shares.ensures ∙ ap (λ (s : CallState). holds_shared s.phase) (c.state_at-before.ensures g.0 b))

pub recount-self-inside-requires-clause-small : goal.recount-self-inside-requires-clause-small
recount-self-inside-requires-clause-small g c =
    omega (arith, c.self.invariant.shared, count_by-le-length (λ (d : Call). holds_shared d.state.phase) c.self.inside.all.items, c.self.inside.all.small)

pub recount-self-inside-requires-2-clause-counted : goal.recount-self-inside-requires-2-clause-counted
recount-self-inside-requires-2-clause-counted g c =
    let lt : c.args.at < length c.self.inside.all.items = subst (λ (cs : List Call). c.args.at < length cs) (sym c.self.view_is) c.requires in
    let g = call_within c.self.inside.all.items c.args.at lt in
    let b : slice_get c.as_slice.result.now c.args.at ≡ Some g.0 = rw c.as_slice.ensures.value g.1 in
    counted_among (λ (d : Call). holds_owned d.state.phase) c.self.inside.all.items _ c.args.at g.0 _ c.self.invariant.owned g.1
    (c.owns.ensures ∙ ap (λ (s : CallState). holds_owned s.phase) (c.state_at-before.ensures g.0 b))

pub recount-self-inside-requires-2-clause-small : goal.recount-self-inside-requires-2-clause-small
recount-self-inside-requires-2-clause-small g c =
    omega (arith, c.self.invariant.owned, count_by-le-length (λ (d : Call). holds_owned d.state.phase) c.self.inside.all.items, c.self.inside.all.small)

pub invariant_of-self : goal.invariant_of-self
invariant_of-self g c =
    let lt : c.args.at < length c.self.inside.all.items = subst (λ (cs : List Call). c.args.at < length cs) (sym c.self.view_is) c.requires in
    let g = call_within c.self.inside.all.items c.args.at lt in
    let b : slice_get c.as_slice.result.now c.args.at ≡ Some g.0 = rw c.as_slice.ensures.value g.1 in
    let s : c.state_at-before.result ≡ g.0.state = c.state_at-before.ensures g.0 b in
    let x : c.shares.result ≡ holds_shared g.0.state.phase = c.shares.ensures ∙ ap (λ (s : CallState). holds_shared s.phase) s in
    let y : c.owns.result ≡ holds_owned g.0.state.phase = c.owns.ensures ∙ ap (λ (s : CallState). holds_owned s.phase) s in
    rw (c.set_state_at.ensures g.0 g.1)
    (indexed_set c.self.inside.all.items c.self.inside.positions c.self.inside.values c.self.inside.sharing c.self.inside.owning _ _ c.args.at g.0 (record g.0 { state = c.args.state }) c.self.invariant g.1 refl refl
    (rw (← x, ← c.shares-2.ensures) c.recount-self-inside.ensures) (rw (← y, ← c.owns-2.ensures) c.recount-self-inside-2.ensures))
