use Rattle.std.proofs.Common.{sym, ◌∙◌, inr}
use Rattle.table_numbered.specs.declared.event.Stored.TheVariants.{Closed}
use Rattle.table_numbered.specs.Words.{alike, marked}
use Rattle.table_numbered.proofs.Marks.{alike_lawful}
use Rattle.table_numbered.proofs.Steps.{publishes_moves}
use Rattle.table_numbered.proofs.bucket.close.Goals as goal

pub compare_exchange-requires : goal.compare_exchange-requires
compare_exchange-requires g c = let offer = c.closing-offer.ensures in let pen = c.no_pen-pen.ensures in (
  c.requires.word.0,
  sym c.requires.word.1,
  pen.0 ∙ sym c.requires.word.1,
  offer.names,
  rw (offer.state, offer.ask, pen.1, c.requires.place)
      (publishes_moves (alike g.L.Law.same) (marked g.L.Law.hash_of) (alike_lawful g.L.Law.lawful) c.args.word.now.key Closed c.args.seen.now.log c.requires.inside (inr c.requires.whole)),
)
