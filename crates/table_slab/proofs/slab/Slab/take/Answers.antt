use Rattle.table_slab.proofs.Seats.{slot_there, slot_few}
use Rattle.table_slab.proofs.slab.Slab.take.Goals as goal

pub where_is-place-requires-clause-number : goal.where_is-place-requires-clause-number
where_is-place-requires-clause-number g c = slot_few c.self.inside.bits c.self.inside.cells.items c.args.self.now c.self.view_is c.self.invariant.slab c.requires.number

pub chunk-requires-clause-inside : goal.chunk-requires-clause-inside
chunk-requires-clause-inside g c = (slot_there c.self.inside.bits c.self.inside.cells.items c.args.self.now c.self.view_is c.requires.number c.where_is-place.ensures).inside

pub chunk-requires-clause-cell : goal.chunk-requires-clause-cell
chunk-requires-clause-cell g c = (slot_there c.self.inside.bits c.self.inside.cells.items c.args.self.now c.self.view_is c.requires.number c.where_is-place.ensures).holds

pub take-value-requires-clause-inside : goal.take-value-requires-clause-inside
take-value-requires-clause-inside g c = rw (c.slots.ensures, c.chunk.ensures) (slot_there c.self.inside.bits c.self.inside.cells.items c.args.self.now c.self.view_is c.requires.number c.where_is-place.ensures).within

pub take-value-requires-clause-of : goal.take-value-requires-clause-of
take-value-requires-clause-of g c = rw (c.slots.ensures, c.chunk.ensures) (slot_there c.self.inside.bits c.self.inside.cells.items c.args.self.now c.self.view_is c.requires.number c.where_is-place.ensures).named
