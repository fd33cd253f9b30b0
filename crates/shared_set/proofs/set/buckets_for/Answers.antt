use Rattle.std.proofs.Common.{◌<◌, ◌≤◌, ◌^◌, arith}
use mathlib.Core.Logic.{dite}
use native.Mathlib.Decide.{dec_lt}
use Rattle.shared_set.proofs.Sizes.{at_most}
use Rattle.shared_set.proofs.set.buckets_for.Goals as goal

pub returns-clause-within : goal.returns-clause-within
returns-clause-within c = let e = c.next_power_of_two.ensures in at_most 32 c.next_power_of_two.result e.power (omega (arith, e.upper_bound, c.max.ensures, c.requires))

pub returns-clause-few : goal.returns-clause-few
returns-clause-few c = let n = c.args.entries in let e = c.next_power_of_two.ensures in dite (dec_lt n 9)
    (λ (small : n < 9). let le : c.next_power_of_two.result ≤ 2 ^ 4 = at_most 4 c.next_power_of_two.result e.power (omega (arith, e.upper_bound, c.max.ensures, small)) in omega (arith, le))
    (λ (no : n < 9 → ⊥). omega (arith, e.upper_bound, c.max.ensures, no))
