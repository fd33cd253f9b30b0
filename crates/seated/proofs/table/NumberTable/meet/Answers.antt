use Rattle.std.proofs.Common.{rules, sym, ap, ap₂, ◌∙◌, subst, ◌++◌}
use Rattle.seated.specs.Numbers.{Within, Disjoint}
use Rattle.seated.specs.Views.{join_of, with_next_turn, without_gift}
use Rattle.seated.specs.declared.seat.View.{View}
use Rattle.seated.specs.Steps.{SeatState}
use Rattle.seated.proofs.Keeps.{cuts_note, cuts_gift, reads, raise_mild, forget_mild}
use Rattle.seated.proofs.Walks.{first_meets, both_meet, within_left, within_right, still_known}
use Rattle.seated.proofs.table.NumberTable.meet.Goals as goal

pub split_seat-note-requires : goal.split_seat-note-requires
split_seat-note-requires _ c = (search rules, search rules, cuts_note _ _ _)

pub load-requires : goal.load-requires
load-requires _ c = (
  search rules,
  search rules,
  reads _ _ _ _ _ with_next_turn (ap (λ (m : SeatState). m.0.size) c.take_in.ensures.me ∙ (c.requires.first.0.1 ∙ sym c.args.self.now.key)) (search rules) raise_mild,
)

pub split_seat-gift-requires : goal.split_seat-gift-requires
split_seat-gift-requires _ c = (search rules, search rules, cuts_gift _ _ _)

pub load-requires-2 : goal.load-requires-2
load-requires-2 _ c = (
  search rules,
  search rules,
  reads _ _ _ _ _ without_gift (ap (λ (m : SeatState). m.0.size) (c.take_in-2.ensures.me) ∙ (ap (λ (m : SeatState). m.0.size) c.split_seat-note.ensures.2 ∙ (c.requires.second.0.1 ∙ sym c.args.self.now.key))) (search rules) forget_mild,
)

pub returns-clause-first : goal.returns-clause-first
returns-clause-first _ c =
    let a : View = c.args.first.now.inner.me.0 in let b : View = c.args.second.now.inner.me.0 in
    let first = first_meets a b c.read_rest.new.seat.inner.me.0 c.take_in.new.seat.inner.me c.load.new.seat.me 0 c.load.result
    (ap (λ (m : SeatState). m.0) c.take_in.ensures.me ∙ ap (λ (m : SeatState). join_of a m.0) c.split_seat-note.ensures.4) c.load.ensures.2 c.read_rest.ensures.view in
    subst (λ (m : SeatState). Within (a.known ++ b.known) m.0.known) (sym c.split_seat-gift.ensures.2) first.0

pub returns-clause-second : goal.returns-clause-second
returns-clause-second _ c =
    let a : View = c.args.first.now.inner.me.0 in let b : View = c.args.second.now.inner.me.0 in
    let met = both_meet a b c.read_rest.new.seat.inner.me.0 c.read_rest-2.new.seat.inner.me.0 c.take_in.new.seat.inner.me c.load.new.seat.me c.take_in-2.new.seat.inner.me c.load-2.new.seat.me 0 c.load.result c.load-2.result (ap (λ (m : SeatState). m.0) c.take_in.ensures.me ∙ ap (λ (m : SeatState). join_of a m.0) c.split_seat-note.ensures.4) c.load.ensures.2 c.read_rest.ensures.view (ap (λ (m : SeatState). m.0) c.take_in-2.ensures.me ∙ ap₂ (λ (m k : SeatState). join_of m.0 k.0) c.split_seat-note.ensures.2 c.split_seat-gift.ensures.4) c.load-2.ensures.2 c.read_rest-2.ensures.view in
    met.0

pub returns-clause-apart : goal.returns-clause-apart
returns-clause-apart _ c =
    let a : View = c.args.first.now.inner.me.0 in let b : View = c.args.second.now.inner.me.0 in
    let met = both_meet a b c.read_rest.new.seat.inner.me.0 c.read_rest-2.new.seat.inner.me.0 c.take_in.new.seat.inner.me c.load.new.seat.me c.take_in-2.new.seat.inner.me c.load-2.new.seat.me 0 c.load.result c.load-2.result (ap (λ (m : SeatState). m.0) c.take_in.ensures.me ∙ ap (λ (m : SeatState). join_of a m.0) c.split_seat-note.ensures.4) c.load.ensures.2 c.read_rest.ensures.view (ap (λ (m : SeatState). m.0) c.take_in-2.ensures.me ∙ ap₂ (λ (m k : SeatState). join_of m.0 k.0) c.split_seat-note.ensures.2 c.split_seat-gift.ensures.4) c.load-2.ensures.2 c.read_rest-2.ensures.view in
    subst (λ (m : SeatState). Disjoint m.0.own c.read_rest-2.new.seat.inner.me.0.own) (sym c.split_seat-gift.ensures.2) met.1

pub returns-clause-seats : goal.returns-clause-seats
returns-clause-seats g c = (
  (search rules, still_known _ _ _ _ c.requires.first.1 (within_left _ _ _ (returns-clause-first g c)) (search rules)),
  (search rules, still_known _ _ _ _ c.requires.second.1 (within_right _ _ _ (returns-clause-second g c)) (search rules)),
)
