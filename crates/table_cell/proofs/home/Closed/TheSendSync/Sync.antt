use denote.Struct.Owning.{shape, to}
use denote.Param.Send.{IsSync, struct_sync, sendable}
use Rattle.table_cell.specs.contracts.home.Closed as C

pub sync : IsSync C.the_row
sync = let O = C.the_type in record { shared = λ d b o κ. ((struct_sync (shape O) (search sendable, tt)).shared (to O d) b o κ, tt) }
