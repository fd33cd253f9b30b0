use Rattle.std.proofs.Common.{sym, ◌∙◌}
use Rattle.table_numbered.specs.declared.event.Stored.TheVariants.{Entry}
use Rattle.table_numbered.specs.Words.{numbered, alike, marked}
use Rattle.table_numbered.proofs.Marks.{alike_lawful}
use Rattle.table_numbered.proofs.Steps.{publishes_moves}
use Rattle.table_numbered.proofs.bucket.carry.Goals as goal

pub compare_exchange-requires : goal.compare_exchange-requires
compare_exchange-requires g c = let offer = c.carrying-offer.ensures in let pen = c.no_pen-pen.ensures in let x = c.args.standing.written.value in (
  c.requires.word.0,
  sym c.requires.word.1,
  pen.0 ∙ sym c.requires.word.1,
  offer.names,
  rw (offer.state, offer.ask, pen.1, c.requires.place, c.requires.bits)
      (publishes_moves (alike g.L.Law.same) (marked g.L.Law.hash_of) (alike_lawful g.L.Law.lawful) c.args.word.now.key (Entry (numbered c.args.number x)) c.args.seen.now.log c.requires.inside
      (rw c.requires.place at c.requires.fits)),
)
