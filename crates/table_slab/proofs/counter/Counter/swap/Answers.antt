use Rattle.std.proofs.Common.{◌≡◌, sym, ◌∙◌, ap}
use Rattle.logbook.specs.Pages.{Named}
use Rattle.table_slab.proofs.Counted.{swaps_moves}
use Rattle.table_slab.proofs.counter.Counter.swap.Goals as goal

pub compare_exchange-found-requires : goal.compare_exchange-found-requires
compare_exchange-found-requires g c = let word = c.self.invariant.1 in let pen = c.no_pen-pen.ensures in let offer = c.swapping-offer.ensures in let begun : c.again-seen.result.book ≡ c.self.inside.start.book = λ i. (c.again-seen.ensures i).book in let book = begun ∙ sym (ap (λ (w : Named). w.book) word) in (
  ap (λ (w : Named). w.tracked) word,
  book,
  pen.0 ∙ book,
  offer.names,
  rw (offer.state, offer.ask, pen.1, ap (λ (w : Named). w.key) word) (swaps_moves c.again-seen.result.log c.args.old c.args.new),
)
