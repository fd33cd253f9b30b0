use Rattle.std.proofs.Common.{arith}
use Rattle.table_terms.proofs.Masks.{is_power_of_two_iff}
use Rattle.table_terms.proofs.capacity.is_first_capacity.Goals as goal

pub returns : goal.returns
returns c =
    let both = is_power_of_two_iff c.args.first in
    ((λ h. (both.0 (rw (← c.is_power_of_two.ensures) h), omega arith, omega arith)), (λ f. rw c.is_power_of_two.ensures (both.1 f.0)))
