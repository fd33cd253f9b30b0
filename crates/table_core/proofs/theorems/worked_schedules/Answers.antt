use Rattle.table_core.proofs.Worked.{lost_to_equal_worked, larger_first_worked, lost_to_other_worked, refused_put_worked, uncounted_worked, late_none_worked, looks_for_what_comes, shared_lock_worked, double_growth_worked, two_growers_worked, starts_again_worked, refused_first_worked, empty_walk_worked, short_walk_worked, right_round_worked, past_the_end_worked, other_bits_worked}
use Rattle.table_core.proofs.theorems.worked_schedules.Goals as goal

pub returns-clause-lost_to_equal : goal.returns-clause-lost_to_equal
returns-clause-lost_to_equal c = lost_to_equal_worked

pub returns-clause-larger_first : goal.returns-clause-larger_first
returns-clause-larger_first c = larger_first_worked

pub returns-clause-lost_to_other : goal.returns-clause-lost_to_other
returns-clause-lost_to_other c = lost_to_other_worked

pub returns-clause-refused_put : goal.returns-clause-refused_put
returns-clause-refused_put c = refused_put_worked

pub returns-clause-uncounted : goal.returns-clause-uncounted
returns-clause-uncounted c = uncounted_worked

pub returns-clause-late_none : goal.returns-clause-late_none
returns-clause-late_none c = late_none_worked

pub returns-clause-shared_lock : goal.returns-clause-shared_lock
returns-clause-shared_lock c = shared_lock_worked

pub returns-clause-double_growth : goal.returns-clause-double_growth
returns-clause-double_growth c = double_growth_worked

pub returns-clause-two_growers : goal.returns-clause-two_growers
returns-clause-two_growers c = two_growers_worked

pub returns-clause-starts_again : goal.returns-clause-starts_again
returns-clause-starts_again c = starts_again_worked

pub returns-clause-refused_first : goal.returns-clause-refused_first
returns-clause-refused_first c = refused_first_worked

pub returns-clause-empty_walk : goal.returns-clause-empty_walk
returns-clause-empty_walk c = empty_walk_worked

pub returns-clause-short_walk : goal.returns-clause-short_walk
returns-clause-short_walk c = short_walk_worked

pub returns-clause-right_round : goal.returns-clause-right_round
returns-clause-right_round c = right_round_worked

pub returns-clause-past_the_end : goal.returns-clause-past_the_end
returns-clause-past_the_end c = past_the_end_worked

pub returns-clause-other_bits : goal.returns-clause-other_bits
returns-clause-other_bits c = other_bits_worked

pub returns-clause-looks_for_what_comes : goal.returns-clause-looks_for_what_comes
returns-clause-looks_for_what_comes c = looks_for_what_comes
