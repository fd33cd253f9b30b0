use Rattle.std.proofs.Common.{ℕ, ◌<◌, List, [], ◌∷◌, length, length-append, ap, sym, subst, ◌∙◌, arith}
use Rattle.std.specs.Prelude.{slice_index_or}
use Rattle.table_chain.specs.History.{History, Stands}
use Rattle.table_chain.proofs.Chained.{are_values}
use Rattle.table_chain.proofs.Laid.{each_push}
use Rattle.table_chain.proofs.chain.Chain.into_values.Goals as goal

pub loop-value-preserved : goal.loop-value-preserved
loop-value-preserved g c = let inv = c.loop-value.invariant in let some = c.in-Some.ensures.some in let xs = c.loop-value.values.items in let x = c.in-Some.value in let items = c.push_reserved.ensures.items in
    let log : History g.row.G.Denot = c.next.new.self.log in
    let here : Stands log (length xs) x = subst (λ (z : History g.row.G.Denot × ℕ). Stands z.0 z.1 x) (λ i. (sym c.next.ensures.log i, inv.taken i)) some.0 in record {
      log = c.next.ensures.log ∙ inv.log;
      count = c.next.ensures.count ∙ inv.count;
      taken = omega (arith, some.2, inv.taken, ap length items, length-append xs (x ∷ []));
      each = subst (λ (zs : List g.row.G.Denot). (p : ℕ) (d : g.row.G.Denot) → p < length zs → Stands log p (slice_index_or zs p d)) (sym items)
          (each_push (Stands log) xs x (λ p d lt. subst (λ (l : History g.row.G.Denot). Stands l p (slice_index_or xs p d)) (sym c.next.ensures.log) (inv.each p d lt)) here);
      room = omega (arith, c.push_reserved.ensures.capacity, c.next.ensures.count, inv.room);
    }

pub returns-clause-values : goal.returns-clause-values
returns-clause-values g c = let inv = c.loop-value.invariant in let e = c.into_ending-ending.ensures in let none = c.in_default-next.ensures.some in let log = c.into_ending-ending.new.seen.log in
    are_values g.F.Follows.begins g.F.Follows.follows c.into_ending-ending.result.count c.args.self.slots log c.loop-value.values.items e.of.2 e.of.3 e.whole
    (omega (arith, inv.taken, none.0, inv.count))
    (λ p d lt. subst (λ (l : History g.row.G.Denot). Stands l p (slice_index_or c.loop-value.values.items p d)) (inv.log ∙ e.log) (inv.each p d lt))
