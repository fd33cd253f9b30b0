use Rattle.std.proofs.Common.{◌++◌, ◌<◌, List, length, subst, rules}
use Rattle.std.specs.List.Sorted.{IsPermutation}
use Rattle.shared_set.specs.Accounts.{AccountView, placed_values, ComeOut}
use Rattle.shared_set.proofs.Accounting.{known_comes_out, all_come_out, more_come_out}
use Rattle.shared_set.proofs.set.SharedSet.settle.Goals as goal

pub returns-then-values_left-count-clause-settles : goal.returns-then-values_left-count-clause-settles
returns-then-values_left-count-clause-settles g c = let a = c.account.inside in let end = c.into_values-values in
    subst (λ (v : AccountView g.row.V.Denot). IsPermutation (placed_values v) end.result.left) c.account.view_is
    (all_come_out end.result.history end.result.left end.ensures.values.each a.receipts.entries c.apart.ensures.apart (λ e among. c.reaches.ensures e (c.account.invariant.known e among)) (search rules))

pub returns-else-values_left-count-clause-settles : goal.returns-else-values_left-count-clause-settles
returns-else-values_left-count-clause-settles g c = let a = c.account.inside in let end = c.into_values-values in
    subst (λ (v : AccountView g.row.V.Denot). (others : List g.row.V.Denot) × (0 < length others) × IsPermutation (placed_values v ++ others) end.result.left) c.account.view_is
    (more_come_out end.result.history end.result.left end.ensures.values.each a.receipts.entries c.apart.ensures.apart (λ e among. c.reaches.ensures e (c.account.invariant.known e among)) (search rules))

pub returns-then-values_left-count-clause-known : goal.returns-then-values_left-count-clause-known
returns-then-values_left-count-clause-known g c = let end = c.into_values-values in
    subst (λ (v : AccountView g.row.V.Denot). ComeOut v.history end.result.left) c.account.view_is (λ e there. known_comes_out end.result.history end.result.left end.ensures.values.each e (c.reaches.ensures e there))

pub returns-else-values_left-count-clause-known : goal.returns-else-values_left-count-clause-known
returns-else-values_left-count-clause-known g c = let end = c.into_values-values in
    subst (λ (v : AccountView g.row.V.Denot). ComeOut v.history end.result.left) c.account.view_is (λ e there. known_comes_out end.result.history end.result.left end.ensures.values.each e (c.reaches.ensures e there))
