use Rattle.std.proofs.Common.{◌≡◌, ◌==◌, true, sym, subst, ◌∙◌, arith}
use Rattle.std.proofs.lemmas.Bool.Decides.{nat_tests}
use Rattle.table_chain.specs.declared.event.Stored.TheVariants.{Shown}
use Rattle.std.specs.Prelude.{Some}
use Rattle.table_chain.specs.History.{event, MayStand}
use Rattle.table_chain.proofs.Steps.{stores_moves, adds_at, shown_is}
use Rattle.table_chain.proofs.word.publish.Goals as goal

pub compare_exchange-found-requires : goal.compare_exchange-found-requires
compare_exchange-found-requires g c = let offer = c.offering-offer.ensures in let pen = c.no_pen-pen.ensures in let x = offer.ask.0 in (
  c.requires.word.0,
  sym c.requires.word.1,
  pen.0 ∙ sym c.requires.word.1,
  offer.names,
  rw (offer.state, offer.ask.2, pen.1, c.requires.slot) (stores_moves g.F.Follows.begins g.F.Follows.follows c.args.word.now.key c.args.number (Shown x) c.args.seen.now.log c.requires.inside
      (λ y is. subst (MayStand g.F.Follows.begins g.F.Follows.follows c.args.seen.now.log c.args.word.now.key) (shown_is x y is) (c.requires.may x offer.ask.1))),
)

pub returns-then-found-eq0-clause-ok : goal.returns-then-found-eq0-clause-ok
returns-then-found-eq0-clause-ok g c = let offer = c.offering-offer.ensures in let x = offer.ask.0 in let e = c.compare_exchange-found.ensures in
    let is : (c.compare_exchange-found.result == 0) ≡ true = grind (arith, nat_tests, c.if-found-eq0.true) in
    (x, offer.ask.1, adds_at g.F.Follows.begins g.F.Follows.follows c.args.slot c.args.word.now.key (event c.args.slot c.args.number (Some (Shown x))) c.offering-offer.result.ask c.args.seen.now.log c.compare_exchange-found.new.seen.log c.requires.slot offer.ask.2 ((rw is at e.7).0))
