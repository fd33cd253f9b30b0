use Rattle.std.proofs.Common.{◌≡◌, ◌∙◌, ◌+◌, ap, arith, rules}
use Rattle.std.specs.Prelude.{option_to_list, sum_by}
use Rattle.table_core.specs.Generations.{Gen}
use Rattle.table_core.proofs.CodeTable.{table_fits}
use Rattle.table_core.proofs.table.Table.buckets.Goals as goal

pub capacity_of-buckets-requires : goal.capacity_of-buckets-requires
capacity_of-buckets-requires g c = rw c.as_slice.ensures.value (let h = table_fits c.self.inside.first c.self.inside.generations.items c.self.inside.growing c.self.inside.source.items c.self.invariant in omega arith)

pub overflow_add-result : goal.overflow_add-result
overflow_add-result g c =
    let h = table_fits c.self.inside.first c.self.inside.generations.items c.self.inside.growing c.self.inside.source.items c.self.invariant in
    let e : sum_by (λ (g : Gen). g.capacity) (option_to_list c.self.inside.growing) ≡ 0 + c.in-Some.growing.capacity = ap (λ o. sum_by (λ (g : Gen). g.capacity) (option_to_list o)) c.in-Some.is in
    let q : c.capacity_of-buckets.result ≡ sum_by (λ (g : Gen). g.capacity) c.self.inside.generations.items = c.capacity_of-buckets.ensures ∙ ap (sum_by (λ (g : Gen). g.capacity)) c.as_slice.ensures.value in
    let r = c.capacity.ensures.value in
    omega arith

pub returns-in-Some : goal.returns-in-Some
returns-in-Some g c = search rules
