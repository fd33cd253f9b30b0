use denote.RattleType.{RattleType}
use denote.Param.Send.{IsSend}
use Rattle.table_slab.proofs.Sent.{row_send}
use Rattle.table_slab.specs.contracts.row.Row.{the_row}

pub send : (R : RattleType) → IsSend R → IsSend (the_row R)
send = row_send
