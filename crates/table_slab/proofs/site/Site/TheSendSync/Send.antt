use denote.RattleType.{RattleType}
use denote.Param.Send.{IsSend}
use Rattle.table_slab.proofs.Sites as sent
use Rattle.table_slab.specs.contracts.site.Site.{the_row}

pub send : (T : RattleType) → IsSend (the_row T)
send = sent.site_send
