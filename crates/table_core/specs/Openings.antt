-- How the event that begins a call begins it.
use Rattle.std.specs.Prelude.{Option, Some, None}
use Rattle.table_core.specs.declared.machine.Opening.{Opening}
use Rattle.table_core.specs.declared.event.Event.{Event}
use Rattle.table_core.specs.declared.event.Event.TheVariants.{Insert, Lookup, Len, Walk}
use Rattle.table_core.specs.Calls.{insert_start, lookup_start, length_start, walk_start}

-- the value of an insert, and the first state of the call that an event begins
abbrev pub opening : Event → Option Opening
opening (Insert c v h) = Some (record { value = Some v; state = insert_start h })
opening (Lookup c h) = Some (record { value = None; state = lookup_start h })
opening (Len c) = Some (record { value = None; state = length_start })
opening (Walk c) = Some (record { value = None; state = walk_start })
opening _ = None
