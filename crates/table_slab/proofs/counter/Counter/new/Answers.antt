use Rattle.std.proofs.Common.{refl}
use Rattle.table_slab.proofs.Trades.{quiet}
use Rattle.table_slab.proofs.counter.Counter.new.Goals as goal

pub open-seen-requires : goal.open-seen-requires
open-seen-requires g c = (record { words = refl }, quiet (denote.Param.param 0 g.row.T) c.start.result.names, c.start.ensures.shown)
