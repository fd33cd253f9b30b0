use Rattle.std.proofs.Common.{◌≡◌, ap, sym, ◌∙◌, Some, None, rules}
use Rattle.std.specs.Option.{option_map}
use Rattle.std.proofs.lemmas.Option.{slice_get_within}
use Rattle.table_core.specs.Replies.{reply_of}
use Rattle.table_core.specs.Machine.{World, number_of, finished_call, AsksMemory}
use Rattle.table_core.specs.Bound.{position_of}
use Rattle.table_core.proofs.CodeEvents.{at_position, nothing_there, happens_at, reply_at, happens_none, reply_none, asks_at}
use Rattle.table_core.proofs.machine.Machine.go_on.Goals as goal

pub go-requires-clause-within : goal.go-requires-clause-within
go-requires-clause-within g c =
    let p : position_of (number_of c.args.event) c.args.self.now.calls ≡ Some c.in-Some.at = ap (position_of (number_of c.args.event)) (ap (λ (w : World). w.calls) (sym c.self.view_is)) ∙ ap (λ n. position_of n c.self.inside.calls) (sym c.call-call.ensures.number) ∙ sym c.in-Some.ensures in
    slice_get_within c.args.self.now.calls c.in-Some.at _ (at_position _ _ _ p).there

pub returns-in_default-clause-ok : goal.returns-in_default-clause-ok
returns-in_default-clause-ok g c =
    let p : position_of (number_of c.args.event) c.args.self.now.calls ≡ None = ap (position_of (number_of c.args.event)) (ap (λ (w : World). w.calls) (sym c.self.view_is)) ∙ ap (λ n. position_of n c.self.inside.calls) (sym c.call-call.ensures.number) ∙ sym c.position.ensures ∙ nothing_there c.position.result c.in_default.not-Some in
    happens_none c.args.self.now c.args.event c.call-call.ensures.in_range c.requires.going p

pub returns-in_default-clause-reply : goal.returns-in_default-clause-reply
returns-in_default-clause-reply g c =
    let p : position_of (number_of c.args.event) c.args.self.now.calls ≡ None = ap (position_of (number_of c.args.event)) (ap (λ (w : World). w.calls) (sym c.self.view_is)) ∙ ap (λ n. position_of n c.self.inside.calls) (sym c.call-call.ensures.number) ∙ sym c.position.ensures ∙ nothing_there c.position.result c.in_default.not-Some in
    reply_none c.args.self.now c.args.event c.call-call.ensures.in_range c.requires.going p

pub returns-in-Some-2-clause-ok : goal.returns-in-Some-2-clause-ok
returns-in-Some-2-clause-ok g c =
    let p : position_of (number_of c.args.event) c.args.self.now.calls ≡ Some c.in-Some.at = ap (position_of (number_of c.args.event)) (ap (λ (w : World). w.calls) (sym c.self.view_is)) ∙ ap (λ n. position_of n c.self.inside.calls) (sym c.call-call.ensures.number) ∙ sym c.in-Some.ensures in
    let a = at_position (number_of c.args.event) c.args.self.now.calls c.in-Some.at p in
    c.in_ok-reply.ensures.ok a.call a.there ∙ happens_at c.args.self.now c.args.event c.in-Some.at a c.call-call.ensures.in_range c.requires.going

pub returns-in-Some-2-clause-reply : goal.returns-in-Some-2-clause-reply
returns-in-Some-2-clause-reply g c =
    let p : position_of (number_of c.args.event) c.args.self.now.calls ≡ Some c.in-Some.at = ap (position_of (number_of c.args.event)) (ap (λ (w : World). w.calls) (sym c.self.view_is)) ∙ ap (λ n. position_of n c.self.inside.calls) (sym c.call-call.ensures.number) ∙ sym c.in-Some.ensures in
    let a = at_position (number_of c.args.event) c.args.self.now.calls c.in-Some.at p in
    ap (λ n. finished_call n (Some (reply_of c.in-Some-2.reply))) c.call-call.ensures.number
    ∙ ap (finished_call (number_of c.args.event)) (ap (option_map reply_of) (sym c.in-Some-2.is) ∙ c.in_ok-reply.ensures.reply a.call a.there)
    ∙ reply_at c.args.self.now c.args.event c.in-Some.at a c.call-call.ensures.in_range c.requires.going

pub returns-in-None-clause-ok : goal.returns-in-None-clause-ok
returns-in-None-clause-ok g c =
    let p : position_of (number_of c.args.event) c.args.self.now.calls ≡ Some c.in-Some.at = ap (position_of (number_of c.args.event)) (ap (λ (w : World). w.calls) (sym c.self.view_is)) ∙ ap (λ n. position_of n c.self.inside.calls) (sym c.call-call.ensures.number) ∙ sym c.in-Some.ensures in
    let a = at_position (number_of c.args.event) c.args.self.now.calls c.in-Some.at p in
    c.in_ok-reply.ensures.ok a.call a.there ∙ happens_at c.args.self.now c.args.event c.in-Some.at a c.call-call.ensures.in_range c.requires.going

pub returns-in-None-clause-reply : goal.returns-in-None-clause-reply
returns-in-None-clause-reply g c =
    let p : position_of (number_of c.args.event) c.args.self.now.calls ≡ Some c.in-Some.at = ap (position_of (number_of c.args.event)) (ap (λ (w : World). w.calls) (sym c.self.view_is)) ∙ ap (λ n. position_of n c.self.inside.calls) (sym c.call-call.ensures.number) ∙ sym c.in-Some.ensures in
    let a = at_position (number_of c.args.event) c.args.self.now.calls c.in-Some.at p in
    ap (finished_call (number_of c.args.event)) (ap (option_map reply_of) (sym c.in-None.is) ∙ c.in_ok-reply.ensures.reply a.call a.there)
    ∙ reply_at c.args.self.now c.args.event c.in-Some.at a c.call-call.ensures.in_range c.requires.going

pub returns-in_err-reply-clause-asks : goal.returns-in_err-reply-clause-asks
returns-in_err-reply-clause-asks g c =
    let p : position_of (number_of c.args.event) c.args.self.now.calls ≡ Some c.in-Some.at = ap (position_of (number_of c.args.event)) (ap (λ (w : World). w.calls) (sym c.self.view_is)) ∙ ap (λ n. position_of n c.self.inside.calls) (sym c.call-call.ensures.number) ∙ sym c.in-Some.ensures in
    let a = at_position (number_of c.args.event) c.args.self.now.calls c.in-Some.at p in
    let h : AsksMemory c.args.self.now c.args.event = asks_at c.args.self.now c.args.event c.in-Some.at a c.call-call.ensures.in_range c.requires.going (c.in_err-reply.ensures.asks a.call a.there) in
    search rules
