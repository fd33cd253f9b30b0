use Rattle.std.proofs.Common.{rules, sym, ap, ◌∙◌, subst}
use Rattle.seated.specs.Numbers.{KnowsEach}
use Rattle.seated.specs.Steps.{SeatState}
use Rattle.seated.specs.Views.{unchanged}
use Rattle.seated.proofs.Keeps.{reads, unchanged_mild}
use Rattle.seated.proofs.Walks.{read_within, read_apart, both_known}
use Rattle.seated.proofs.table.NumberTable.join.Goals as goal

pub load-requires : goal.load-requires
load-requires _ c = (
  search rules,
  search rules,
  reads _ _ _ _ _ unchanged (ap (λ m. m.0.size) c.take_in.ensures.me ∙ (c.requires.first.0.1 ∙ sym c.args.self.now.key)) (search rules) unchanged_mild,
)

pub returns-clause-known : goal.returns-clause-known
returns-clause-known _ c = read_within 0 0 _ _ c.take_in.new.seat.inner.me c.load.new.seat.me (ap (λ (m : SeatState). m.0.known) c.take_in.ensures.me) c.load.ensures.2

pub returns-clause-apart : goal.returns-clause-apart
returns-clause-apart _ c = read_apart _ _ _ _ _ (ap (λ (m : SeatState). m.0.own) c.take_in.ensures.me) c.load.ensures.2.0

pub returns-clause-seat : goal.returns-clause-seat
returns-clause-seat g c = (
  search rules,
  subst (KnowsEach c.load.new.seat.me.0.known) (sym (search rules)) (both_known _ _ _ _ _ c.requires.first.1 c.requires.second.1 (returns-clause-known g c)),
)
