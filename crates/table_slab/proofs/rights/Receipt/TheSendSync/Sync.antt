use denote.RattleType.{RattleType}
use denote.Param.Send.{IsSync}
use Rattle.table_slab.proofs.Received as receipts
use Rattle.table_slab.specs.contracts.rights.Receipt.{the_row}

pub sync : (T : RattleType) → IsSync (the_row T)
sync = receipts.receipt_sync
