use Rattle.table_slab.proofs.Seats.{slot_there, slot_few}
use Rattle.table_slab.proofs.slab.Slab.get.Goals as goal

pub where_is-place-requires-clause-number : goal.where_is-place-requires-clause-number
where_is-place-requires-clause-number g c = slot_few c.self.inside.bits c.self.inside.cells.items c.args.self.now c.self.view_is c.self.invariant.slab c.requires

pub chunk-requires-clause-inside : goal.chunk-requires-clause-inside
chunk-requires-clause-inside g c = (slot_there c.self.inside.bits c.self.inside.cells.items c.args.self.now c.self.view_is c.requires c.where_is-place.ensures).inside

pub chunk-requires-clause-cell : goal.chunk-requires-clause-cell
chunk-requires-clause-cell g c = (slot_there c.self.inside.bits c.self.inside.cells.items c.args.self.now c.self.view_is c.requires c.where_is-place.ensures).holds

pub get-requires-clause-inside : goal.get-requires-clause-inside
get-requires-clause-inside g c = rw (c.slots.ensures, c.chunk.ensures) (slot_there c.self.inside.bits c.self.inside.cells.items c.args.self.now c.self.view_is c.requires c.where_is-place.ensures).within

pub get-requires-clause-of : goal.get-requires-clause-of
get-requires-clause-of g c = rw (c.slots.ensures, c.chunk.ensures) (slot_there c.self.inside.bits c.self.inside.cells.items c.args.self.now c.self.view_is c.requires c.where_is-place.ensures).named
