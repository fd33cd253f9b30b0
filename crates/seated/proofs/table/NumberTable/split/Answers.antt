use Rattle.std.proofs.Common.{rules, sym, subst}
use Rattle.seated.specs.Numbers.{KnowsEach}
use Rattle.seated.specs.Steps.{SeatState}
use Rattle.seated.proofs.Keeps.{cuts_newcomer}
use Rattle.seated.proofs.Walks.{nothing_owned}
use Rattle.seated.proofs.table.NumberTable.split.Goals as goal

pub split_seat-second-requires : goal.split_seat-second-requires
split_seat-second-requires _ c = (search rules, search rules, cuts_newcomer _ _ _)

pub returns-clause-seats : goal.returns-clause-seats
returns-clause-seats _ c = (
  (search rules, subst (λ (m : SeatState). KnowsEach m.0.known m.0.own) (sym c.split_seat-second.ensures.2) c.requires.1),
  (search rules, nothing_owned _ _ (search rules)),
)
