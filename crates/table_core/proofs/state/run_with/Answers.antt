use Rattle.std.proofs.Common.{◌≡◌, ap, sym, ◌∙◌, ◌+◌, ◌++◌, ◌∷◌, [], take, get_or, add-one}
use Rattle.std.specs.Prelude.{option_to_list}
use Rattle.std.proofs.Math.Seq.{take-suc}
use Rattle.table_core.specs.Machine.{empty, after, happens, finishes}
use Rattle.table_core.specs.History.{replies}
use Rattle.table_core.specs.declared.event.Event.TheVariants.{Insert}
use Rattle.table_core.proofs.Pasts.{after_snoc, replies_snoc}
use Rattle.table_core.proofs.state.run_with.Goals as goal

pub loop-event-preserved : goal.loop-event-preserved
loop-event-preserved g c =
    let x = get_or c.args.events.now c.loop-event.event-index (Insert 0 0 0) in
    let s = take c.loop-event.event-index c.args.events.now in
    let t : take (c.loop-event.event-index + 1) c.args.events.now ≡ s ++ x ∷ [] = rw add-one (take-suc c.args.events.now c.loop-event.event-index (Insert 0 0 0) c.loop-event-test.true) in
    record {
      here = c.in_ok-finished.ensures.ok ∙ ap (λ w. happens w x) c.loop-event.invariant.here ∙ sym (after_snoc c.args.first s x) ∙ ap (after c.args.first) (sym t);
      reply = c.in_ok-push_finished.ensures
          ∙ ap (λ r. c.loop-event.replies.items ++ option_to_list r) (c.in_ok-finished.ensures.reply ∙ ap (λ w. finishes w x) c.loop-event.invariant.here)
          ∙ ap (λ l. l ++ option_to_list (finishes (after c.args.first s) x)) c.loop-event.invariant.reply
          ∙ sym (replies_snoc c.args.first s x) ∙ ap (replies (empty c.args.first)) (sym t);
    }
