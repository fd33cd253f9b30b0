use Rattle.std.proofs.Common.{◌∙◌}
use Rattle.table_generations.proofs.values.into_iter.IntoIter.of_generations.Goals as goal

pub invariant_of-result : goal.invariant_of-result
invariant_of-result g c = record {
  first_is = c.into_own_values.ensures.home ∙ c.requires.current;
  others = rw c.new.ensures c.requires.others;
  counted = rw (c.into_own_values.ensures.values, c.new.ensures) c.requires.counted;
}
