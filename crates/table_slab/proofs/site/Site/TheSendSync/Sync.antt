use denote.RattleType.{RattleType}
use denote.Param.Send.{IsSync}
use Rattle.table_slab.proofs.Sites as sent
use Rattle.table_slab.specs.contracts.site.Site.{the_row}

pub sync : (T : RattleType) → IsSync (the_row T)
sync = sent.site_sync
