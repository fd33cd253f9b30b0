use denote.RattleType.{RattleType}
use denote.Param.Send.{IsSync}
use Rattle.table_slab.proofs.Sent as sent
use Rattle.table_slab.specs.contracts.rights.Written.{the_row}

pub sync : (T : RattleType) → IsSync (the_row T)
sync = sent.written_sync
