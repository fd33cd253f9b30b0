use base.Growing.{prefix_trans}
use Rattle.table_numbered.proofs.Hinted.{taken_on}
use Rattle.table_numbered.proofs.generation.NumberedGeneration.has_number.Goals as goal

pub returns-clause-none : goal.returns-clause-none
returns-clause-none g c not_met taken = let start = c.args.seen.now.log in let first = c.is_hinted.new.seen.log in let marked = c.hint_all.new.seen.log in let second = c.is_hinted-2.new.seen.log in
    c.is_in_buckets.ensures.none not_met (taken_on c.args.number start second
    (prefix_trans start first second c.is_hinted.ensures.longer (prefix_trans first marked second c.hint_all.ensures.longer c.is_hinted-2.ensures.longer)) taken)

pub returns-clause-longer : goal.returns-clause-longer
returns-clause-longer g c = let start = c.args.seen.now.log in let first = c.is_hinted.new.seen.log in let marked = c.hint_all.new.seen.log in let second = c.is_hinted-2.new.seen.log in let last = c.is_in_buckets.new.seen.log in
    prefix_trans start first last c.is_hinted.ensures.longer (prefix_trans first marked last c.hint_all.ensures.longer (prefix_trans marked second last c.is_hinted-2.ensures.longer c.is_in_buckets.ensures.longer))
