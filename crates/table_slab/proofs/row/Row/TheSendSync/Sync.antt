use denote.RattleType.{RattleType}
use denote.Param.Send.{IsSend, IsSync}
use Rattle.table_slab.proofs.Sent.{row_sync}
use Rattle.table_slab.specs.contracts.row.Row.{the_row}

pub sync : (R : RattleType) → IsSend R → IsSync R → IsSync (the_row R)
sync = row_sync
