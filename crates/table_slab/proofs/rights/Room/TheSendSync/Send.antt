use denote.RattleType.{RattleType}
use denote.Param.Send.{IsSend}
use Rattle.table_slab.proofs.Sent as sent
use Rattle.table_slab.specs.contracts.rights.Room.{the_row}

pub send : (T : RattleType) → IsSend (the_row T)
send = sent.room_send
