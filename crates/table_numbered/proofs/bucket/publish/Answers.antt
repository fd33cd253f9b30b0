use Rattle.std.proofs.Common.{◌≡◌, ◌==◌, true, [], ◌∷◌, sym, ap, ◌∙◌, arith}
use Rattle.std.proofs.lemmas.Bool.Decides.{nat_tests}
use Rattle.std.specs.Prelude.{Some}
use Rattle.table_slab.specs.Shelved.{slab_of}
use Rattle.table_numbered.specs.declared.event.Stored.TheVariants.{Entry}
use Rattle.table_numbered.specs.Words.{numbered, alike, marked}
use Rattle.table_numbered.specs.History.{event}
use Rattle.table_numbered.proofs.Marks.{alike_lawful}
use Rattle.table_numbered.proofs.Steps.{publishes_moves, adds_at}
use Rattle.table_numbered.proofs.Trades.{same_ask}
use Rattle.table_numbered.proofs.bucket.publish.Goals as goal

pub compare_exchange-found-requires : goal.compare_exchange-found-requires
compare_exchange-found-requires g c = let offer = c.publishing-offer.ensures in let pen = c.no_pen-pen.ensures in let x = offer.ask.0 in (
  c.requires.word.0,
  sym c.requires.word.1,
  pen.0 ∙ sym c.requires.word.1,
  offer.names,
  rw (offer.state, offer.ask.2, pen.1, c.requires.place, c.requires.bits x offer.ask.1)
      (publishes_moves (alike g.L.Law.same) (marked g.L.Law.hash_of) (alike_lawful g.L.Law.lawful) c.args.word.now.key (Entry (numbered c.args.number x)) c.args.seen.now.log c.requires.inside
      (rw c.requires.place at c.requires.fits x offer.ask.1)),
)

pub returns-then-found-eq0-clause-ok : goal.returns-then-found-eq0-clause-ok
returns-then-found-eq0-clause-ok g c = let offer = c.publishing-offer.ensures in let x = offer.ask.0 in let e = c.compare_exchange-found.ensures in let won = c.won.ensures.receipt in let gained = c.into_gain.ensures in
    let is : (c.compare_exchange-found.result == 0) ≡ true = grind (arith, nat_tests, c.if-found-eq0.true) in
    let one : won.0 ≡ x = same_ask c.args.place c.args.number won.0 x (sym won.1 ∙ (gained.1 ∙ (e.4 ∙ (offer.about ∙ ap (λ a. a ∷ []) offer.ask.2)))) in (
      x,
      offer.ask.1,
      adds_at (alike g.L.Law.same) (marked g.L.Law.hash_of) c.args.place c.args.word.now.key (event c.args.place (Some (Entry (numbered c.args.number x)))) c.publishing-offer.result.ask c.args.seen.now.log c.compare_exchange-found.new.seen.log c.requires.place offer.ask.2 ((rw is at e.7).0),
      (won.2.0 ∙ ap slab_of (gained.0 ∙ (e.2 ∙ offer.names)), won.2.1, won.2.2 ∙ one),
    )
