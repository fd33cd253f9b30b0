use denote.RattleType.{RattleType}
use denote.Param.Send.{IsSend}
use Rattle.table_slab.proofs.Received as receipts
use Rattle.table_slab.specs.contracts.rights.Receipt.{the_row}

pub send : (T : RattleType) → IsSend (the_row T)
send = receipts.receipt_send
