use Rattle.std.proofs.Common.{refl}
use Rattle.table_generations.specs.Buckets.{own}
use Rattle.table_generations.specs.Growth.{entry_of}
use Rattle.table_generations.proofs.Contents.{size_fits}
use Rattle.table_generations.proofs.Probes.{generation_set, vacant_below, vacant_held}
use Rattle.table_generations.proofs.fixed.Generation.insert.Goals as goal

pub place_alone-requires-clause-within : goal.place_alone-requires-clause-within
place_alone-requires-clause-within g c = vacant_below _ _ c.args.hash c.self.inside.row.contents c.in-Vacant.index (rw (← c.self.view_is) at c.in-Vacant.ensures)

pub overflow_add-self : goal.overflow_add-self
overflow_add-self g c =
    let set = generation_set _ _ c.args.hash c.self.inside.row.contents c.self.inside.size c.in-Vacant.index (own (entry_of c.args.value c.args.hash)) _ c.self.invariant (rw (← c.self.view_is) at c.in-Vacant.ensures) refl in
    record { fits = size_fits _ _ set }

pub invariant_of-self : goal.invariant_of-self
invariant_of-self g c =
    rw c.in-Ok.ensures.placed (generation_set _ _ c.args.hash c.self.inside.row.contents c.self.inside.size c.in-Vacant.index _ _ c.self.invariant (rw (← c.self.view_is) at c.in-Vacant.ensures) refl)

pub unreachable-requires : goal.unreachable-requires
unreachable-requires g c =
    let v = rw (← c.self.view_is) at c.in-Vacant.ensures in
    let back = rw c.in-Err-Taken.field-0-is at c.in-Err-Taken.ensures.refused.1 in
    back.1 (vacant_held c.self.inside.row.contents c.in-Vacant.index v.vacant)
