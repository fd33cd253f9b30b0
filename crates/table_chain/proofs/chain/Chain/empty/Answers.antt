use Rattle.std.proofs.Common.{◌≡◌, ℕ, None, true, length, [], ◌∷◌, sym, refl, ap, subst, ◌∙◌, arith, length-append}
use Rattle.std.specs.Prelude.{replicate}
use Rattle.table_slab.specs.Shelved.{names_of}
use Rattle.table_chain.specs.History.{History, event, HasSize, IsReached}
use Rattle.table_chain.specs.Chains.{IsWord, AreWords}
use Rattle.table_chain.proofs.Laid.{words_push}
use Rattle.table_chain.proofs.Steps.{kept_first}
use Rattle.table_chain.proofs.Trades.{quiet}
use Rattle.table_chain.proofs.chain.Chain.empty.Goals as goal

pub open_row-seen-requires : goal.open_row-seen-requires
open_row-seen-requires g c = (kept_first g.F.Follows.begins g.F.Follows.follows c.args.slots, quiet (denote.Param.param 0 g.row.G) c.start-begun.result.names, c.start-begun.ensures.shown)

pub loop-made-preserved : goal.loop-made-preserved
loop-made-preserved g c = let inv = c.loop-made.invariant in let ws = c.loop-made.words.items in let w = c.tracked.result in let pen = c.take.ensures.pen in let rest = c.take.ensures.rest in let is = c.tracked.ensures.0 in
    let items = c.push_reserved.ensures.items in let b = c.open_row-seen.result.0.book in
    let word : IsWord b w = (ap (λ x. x.tracked) is, ap (λ x. x.book) is ∙ (pen.0 ∙ inv.book)) in let key : w.key ≡ length ws = ap (λ x. x.key) is ∙ (ap (λ x. x.key) pen.1 ∙ (inv.next ∙ sym inv.long)) in record {
      words = subst (AreWords b) (sym items) (words_push b ws w inv.words word key);
      long = omega (arith, ap length items, length-append ws (w ∷ []), inv.long);
      book = rest.0 ∙ inv.book;
      next = omega (arith, rest.1, inv.next);
      left = omega (arith, rest.2, inv.left, c.loop-made-test.true);
      room = omega (arith, c.push_reserved.ensures.capacity, inv.room);
    }

pub invariant_of-result : goal.invariant_of-result
invariant_of-result g c = let inv = c.loop-made.invariant in let e = c.open_row-seen.ensures in
    let long : c.args.slots ≡ length c.loop-made.words.items = omega (arith, inv.long, inv.left, c.loop-made-test.false, c.loop-made.auto._made-end) in
    let names : c.open_row-seen.result.0.names ≡ names_of c.in_ok-slab.slab = e.0 ∙ c.start-begun.ensures.names in
    let first : History g.row.G.Denot = event c.args.slots 0 None ∷ [] in let begins : HasSize c.args.slots first = ([], refl) in (
      record {
        words = inv.words;
        size = subst (λ (z : ℕ × History g.row.G.Denot). HasSize z.0 z.1) (λ i. (long i, sym e.1 i)) begins;
        reached = subst (λ (l : History g.row.G.Denot). IsReached g.F.Follows.begins g.F.Follows.follows l) (sym e.1) (replicate c.args.slots (0, true), kept_first g.F.Follows.begins g.F.Follows.follows c.args.slots);
      },
      sym names,
    )
