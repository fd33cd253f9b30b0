use Rattle.std.proofs.Common.{◌≡◌, length, [], ◌∷◌, sym, ap, subst, ◌∙◌, arith, length-append}
use Rattle.table_numbered.specs.Generations.{IsWord, AreWords}
use Rattle.table_numbered.proofs.Laid.{words_push}
use Rattle.table_numbered.proofs.row.words_by.Goals as goal

pub loop-made-preserved : goal.loop-made-preserved
loop-made-preserved g c = let inv = c.loop-made.invariant in let ws = c.loop-made.words.items in let w = c.tracked.result in let pen = c.take.ensures.pen in let rest = c.take.ensures.rest in let is = c.tracked.ensures.0 in
    let items = c.push_reserved.ensures.items in let b = c.args.pens.book in
    let word : IsWord b w = (ap (λ x. x.tracked) is, ap (λ x. x.book) is ∙ (pen.0 ∙ inv.book)) in let key : w.key ≡ length ws = ap (λ x. x.key) is ∙ (ap (λ x. x.key) pen.1 ∙ (inv.next ∙ sym inv.long)) in record {
      words = subst (AreWords b) (sym items) (words_push b ws w inv.words word key);
      long = omega (arith, ap length items, length-append ws (w ∷ []), inv.long);
      book = rest.0 ∙ inv.book;
      next = omega (arith, rest.1, inv.next);
      left = omega (arith, rest.2, inv.left, c.loop-made-test.true);
      room = omega (arith, c.push_reserved.ensures.capacity, inv.room);
    }
