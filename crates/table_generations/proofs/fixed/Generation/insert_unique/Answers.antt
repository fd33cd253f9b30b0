use Rattle.std.proofs.Common.{◌≡◌, true, false, arith, rules}
use Rattle.table_generations.specs.Buckets.{shown_all}
use Rattle.table_generations.proofs.Contents.{length-shown_all, name_shows}
use Rattle.table_generations.proofs.Probes.{generation_set, vacant_below, vacant_held, vacant_into, ends_vacant}
use Rattle.table_generations.proofs.fixed.Generation.insert_unique.Goals as goal

pub put-requires-clause-within : goal.put-requires-clause-within
put-requires-clause-within g c = vacant_below _ _ c.args.hash c.self.inside.row.contents c.in-Vacant.index (rw (← c.self.view_is) at c.in-Vacant.ensures)

pub put-requires-clause-vacant : goal.put-requires-clause-vacant
put-requires-clause-vacant g c = let v = rw (← c.self.view_is) at c.in-Vacant.ensures in vacant_held c.self.inside.row.contents c.in-Vacant.index v.vacant

pub overflow_add-self : goal.overflow_add-self
overflow_add-self g c =
    let room = rw (← c.self.view_is) at c.requires.room in
    let fits = c.self.invariant.fits in
    record { fits = omega arith }

pub invariant_of-self : goal.invariant_of-self
invariant_of-self g c =
    let (e, shows, is) = name_shows c.args.name.content c.requires.name in
    rw c.put.ensures.put (generation_set _ _ c.args.hash c.self.inside.row.contents c.self.inside.size c.in-Vacant.index c.args.name.content e c.self.invariant (rw (← c.self.view_is) at c.in-Vacant.ensures) shows)

pub unreachable-requires : goal.unreachable-requires
unreachable-requires g c =
    let ps = shown_all c.self.inside.row.contents in
    let room = rw (← c.self.view_is) at c.requires.room in
    let long = length-shown_all c.self.inside.row.contents in
    let counted = c.self.invariant.counted in
    let (i, ends) = ends_vacant _ _ c.args.hash ps c.probe.result (λ x said. (let e : false ≡ true = search rules in (cc))) (omega arith) (rw (← c.self.view_is) at c.probe.ensures) in
    c.in_default.not-Vacant i ends

pub returns-clause-put : goal.returns-clause-put
returns-clause-put g c = (c.in-Vacant.index, vacant_into _ _ _ (λ x r said. tt) _ _ _ c.in-Vacant.ensures, rw (← c.self.view_is) c.put.ensures.put)

pub returns-clause-counted : goal.returns-clause-counted
returns-clause-counted g c = (invariant_of-self g c).counted
