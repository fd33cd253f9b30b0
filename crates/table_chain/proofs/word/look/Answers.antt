use Rattle.std.proofs.Common.{sym}
use Rattle.std.specs.Prelude.{None}
use Rattle.table_chain.specs.History.{event}
use Rattle.table_chain.proofs.Steps.{looks_moves}
use Rattle.table_chain.proofs.word.look.Goals as goal

pub load-requires : goal.load-requires
load-requires g c = let offer = c.plain-offer.ensures in (
  c.requires.word.0,
  sym c.requires.word.1,
  offer.0,
  rw (offer.1, offer.3) (looks_moves g.F.Follows.begins g.F.Follows.follows c.args.word.now.key c.args.seen.now.log (event 0 0 None) c.requires.inside),
)
