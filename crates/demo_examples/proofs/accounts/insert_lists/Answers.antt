use Rattle.std.proofs.Common.{◌≡◌, ◌<◌, ℕ, List, length, sym, subst, rules}
use Rattle.std.specs.Prelude.{slice_index_or}
use Rattle.std.specs.declared.vec.Vec.{Vec}
use Rattle.std.specs.List.{flat_map}
use Rattle.std.specs.List.Sorted.{IsPermutation}
use Rattle.std.proofs.lemmas.List.Sorted.{IsPermutation-trans}
use Rattle.table_terms.specs.Laws.{same_number}
use Rattle.table_terms.specs.declared.law.NumberLaw.{NumberLaw}
use Rattle.shared_set.specs.Accounts.{placed_values}
use Rattle.demo_examples.specs.Accounts.{AreAccounted, handed_in, worked}
use Rattle.demo_examples.specs.declared.accounts.Work.{Work}
use Rattle.demo_examples.proofs.Moved.{all_moved}
use Rattle.demo_examples.proofs.Handed.{accounted}
use Rattle.demo_examples.proofs.accounts.insert_lists.Goals as goal

pub returns-in_ok-out-in-All : goal.returns-in_ok-out-in-All
returns-in_ok-out-in-All g c = let lists = c.args.lists.items in let works = c.in_ok-works.works.items in let all = c.in_ok-all.all in let left = c.in-All.values.left in let end = c.in-All.ensures in
    let each : (i : ℕ) (d : Vec ℕ _) (e : Work ℕ NumberLaw g.row.A.Denot) → i < length lists → IsPermutation (slice_index_or lists i d).items (worked (slice_index_or works i e)) = λ i d e lt. let it = (c.in_ok-works.ensures.each i e lt).1 in
    subst (λ (l : Vec ℕ _). IsPermutation l.items (worked (slice_index_or works i e))) (sym (it.job_is d)) it.call.met.1 in
    let as_many : length works ≡ length lists = search rules in
    let given : IsPermutation (handed_in lists) (worked all) = IsPermutation-trans (handed_in lists) (flat_map worked works) (worked all) (all_moved (λ (list : Vec ℕ _). list.items) worked lists works as_many each) c.in_ok-all.ensures.moved in
    subst (λ (vs : List ℕ). AreAccounted same_number (handed_in lists) vs all.found.items all.refused.items) (sym c.in_ok-out-in-All.ensures)
    (accounted same_number (handed_in lists) (placed_values all.account) all.found.items all.refused.items left all.account.history given end.settles end.ends.values.apart c.in_ok-all.ensures.of.found end.known)
