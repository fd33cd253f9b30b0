use Rattle.table_shared.proofs.Settled.{all_of_home}
use Rattle.table_shared.proofs.ending.hand_out.Goals as goal

pub count_earlier-known-requires : goal.count_earlier-known-requires
count_earlier-known-requires g c = (c.args.closed.id, rw c.as_slice.ensures.value c.requires.earlier)

pub count_later-requires : goal.count_later-requires
count_later-requires g c = (c.args.closed.id, rw c.as_slice-2.ensures.value c.requires.later)

pub of_generations-requires-clause-others : goal.of_generations-requires-clause-others
of_generations-requires-clause-others g c = all_of_home c.args.closed.id c.args.earlier.items c.args.later.items c.requires.earlier c.requires.later

pub drop_rest-requires : goal.drop_rest-requires
drop_rest-requires g c = rw c.new.ensures (all_of_home c.args.closed.id c.args.earlier.items c.args.later.items c.requires.earlier c.requires.later)
