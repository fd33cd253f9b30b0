use Rattle.std.proofs.Common.{List, ℕ, ◌+◌, refl, sym, ◌∙◌, ap}
use Rattle.logbook.specs.Pages.{Named, Book}
use Rattle.table_slab.specs.declared.counter.rule.Event.TheVariants.{Taken}
use Rattle.table_slab.proofs.Counted.{looks_first, takes_moves}
use Rattle.table_slab.proofs.counter.Counter.take_next.Goals as goal

pub load-offset-requires : goal.load-offset-requires
load-offset-requires g c = let word = c.self.invariant.0 in let look = c.plain-look.ensures in (
  ap (λ (w : Named). w.tracked) word,
  c.loop-try.invariant.seen.0 ∙ sym (ap (λ (w : Book × List ℕ). w.0) c.self.view_is) ∙ sym (ap (λ (w : Named). w.book) word),
  look.0,
  rw (look.1, look.3, ap (λ (w : Named). w.key) word) (looks_first c.loop-try.seen.log (Taken 0)),
)

pub compare_exchange-found-requires : goal.compare_exchange-found-requires
compare_exchange-found-requires g c = let word = c.self.invariant.0 in let pen = c.no_pen-pen.ensures in let offer = c.taking-offer.ensures in let book = c.load-offset.ensures.0 ∙ (c.loop-try.invariant.seen.0 ∙ sym (ap (λ (w : Book × List ℕ). w.0) c.self.view_is) ∙ sym (ap (λ (w : Named). w.book) word)) in (
  ap (λ (w : Named). w.tracked) word,
  book,
  pen.0 ∙ book,
  offer.names,
  rw (offer.state, offer.ask, pen.1, ap (λ (w : Named). w.key) word) (takes_moves c.load-offset.new.seen.log c.min-count.result c.load-offset.result (c.load-offset.result + c.min-count.result) refl),
)
