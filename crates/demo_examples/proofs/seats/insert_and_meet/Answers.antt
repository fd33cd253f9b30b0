use Rattle.demo_examples.proofs.Meetings.{told_known, placed_owns, from_first, from_second, owned_once}
use Rattle.demo_examples.proofs.seats.insert_and_meet.Goals as goal

pub returns-clause-first_finds : goal.returns-clause-first_finds
returns-clause-first_finds g c not_full =
    c.contains.ensures.again (from_second _ _ _ _ c.meet-always_ok.ensures.first (told_known _ _ _ _ _ _ _ c.insert-second_insert.ensures.answer not_full))

pub returns-clause-second_finds : goal.returns-clause-second_finds
returns-clause-second_finds g c not_full =
    c.contains-2.ensures.again (from_first _ _ _ _ c.meet-always_ok.ensures.second (told_known _ _ _ _ _ _ _ c.insert-first_insert.ensures.answer not_full))

pub returns-clause-placed_once : goal.returns-clause-placed_once
returns-clause-placed_once g c same first second =
    owned_once _ _ _ _ _ _ c.meet-always_ok.ensures.first_own c.meet-always_ok.ensures.second_own c.meet-always_ok.ensures.apart same
    (placed_owns _ _ _ _ _ _ _ c.insert-first_insert.ensures.answer first)
    (placed_owns _ _ _ _ _ _ _ c.insert-second_insert.ensures.answer second)
