use denote.RattleType.{RattleType}
use denote.Struct.Owning.{shape, to}
use denote.Param.Send.{IsSync, struct_sync, sendable}
use Rattle.table_cell.specs.contracts.note.Note as C
use Rattle.table_cell.proofs.Sent.{learnt_keyless}

pub sync : (T : RattleType) → IsSync (C.the_row T)
sync T = let O = C.the_type T in record { shared = λ n b o κ. ((struct_sync (shape O) (search sendable, tt)).shared (to O n) b o κ, learnt_keyless T n.of n.known) }
