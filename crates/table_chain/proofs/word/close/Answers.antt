use Rattle.std.proofs.Common.{◌≡◌, sym, ◌∙◌}
use Rattle.table_chain.specs.declared.event.Stored.TheVariants.{Shown, End}
use Rattle.table_chain.proofs.Steps.{stores_moves}
use Rattle.table_chain.proofs.word.close.Goals as goal

pub compare_exchange-found-requires : goal.compare_exchange-found-requires
compare_exchange-found-requires g c = let offer = c.closing-offer.ensures in let pen = c.no_pen-pen.ensures in (
  c.requires.word.0,
  sym c.requires.word.1,
  pen.0 ∙ sym c.requires.word.1,
  offer.names,
  rw (offer.state, offer.ask, pen.1, c.requires.slot) (stores_moves g.F.Follows.begins g.F.Follows.follows c.args.word.now.key 0 End c.args.seen.now.log c.requires.inside (λ x is. absurd (let no : End ≡ Shown x = is in cc))),
)
