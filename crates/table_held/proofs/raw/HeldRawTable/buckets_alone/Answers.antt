use Rattle.std.proofs.Common.{arith, ◌<◌, ◌^◌, length}
use Rattle.table_held.proofs.Kept.{buckets_few, buckets_sum, buckets_fit, buckets_are}
use Rattle.table_held.proofs.raw.HeldRawTable.buckets_alone.Goals as goal

pub overflow_add-result : goal.overflow_add-result
overflow_add-result g c =
    let some : 0 < length c.self.inside.current.contents = omega arith in
    let small : length c.self.inside.current.contents < 2 ^ 64 = omega arith in
    record { fits = rw c.capacity-capacity.ensures (buckets_fit _ _ _ _ c.self.invariant.0 some small) }

pub returns-clause-linear_in_entries : goal.returns-clause-linear_in_entries
returns-clause-linear_in_entries g c =
    let some : 0 < length c.self.inside.current.contents = omega arith in
    rw (c.capacity-capacity.ensures, buckets_are _ _ _ _ c.self.invariant.0 some, ← c.self.view_is) (buckets_few _ _ _ _ c.self.invariant.0 some)

pub returns-clause-twice_the_capacity : goal.returns-clause-twice_the_capacity
returns-clause-twice_the_capacity g c some_buckets =
    let some : 0 < length c.self.inside.current.contents = omega arith in
    rw (c.capacity-capacity.ensures, ← c.self.view_is) (buckets_sum _ _ _ _ c.self.invariant.0 some)
