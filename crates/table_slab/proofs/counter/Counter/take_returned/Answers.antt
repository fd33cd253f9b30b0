use Rattle.std.proofs.Common.{◌≡◌, sym, ◌∙◌, ap}
use Rattle.logbook.specs.Pages.{Named}
use Rattle.table_slab.specs.declared.counter.rule.Event.TheVariants.{Taken}
use Rattle.table_slab.proofs.Counted.{looks_second}
use Rattle.table_slab.proofs.counter.Counter.take_returned.Goals as goal

pub load-word-requires : goal.load-word-requires
load-word-requires g c = let word = c.self.invariant.1 in let look = c.plain-look.ensures in let begun : c.again-seen.result.book ≡ c.self.inside.start.book = λ i. (c.again-seen.ensures i).book in (
  ap (λ (w : Named). w.tracked) word,
  begun ∙ sym (ap (λ (w : Named). w.book) word),
  look.0,
  rw (look.1, look.3, ap (λ (w : Named). w.key) word) (looks_second c.again-seen.result.log (Taken 0)),
)
