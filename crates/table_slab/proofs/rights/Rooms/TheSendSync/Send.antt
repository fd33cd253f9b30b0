use denote.RattleType.{RattleType}
use denote.Param.Send.{IsSend}
use Rattle.table_slab.proofs.Sent as sent
use Rattle.table_slab.specs.contracts.rights.Rooms.{the_row}

pub send : (T : RattleType) → IsSend (the_row T)
send = sent.rooms_send
