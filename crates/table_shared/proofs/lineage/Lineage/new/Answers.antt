use Rattle.table_shared.proofs.lineage.Lineage.new.Goals as goal

pub invariant_of-result : goal.invariant_of-result
invariant_of-result g c = record {
  of_home = rw c.requires.1 c.requires.0;
  is_open = record { home_is = rw c.requires.1 c.new-later.ensures.1; from_is = c.new-later.ensures.0; owning = c.new-later.ensures.2; unset = c.new-later.ensures.3 };
}
