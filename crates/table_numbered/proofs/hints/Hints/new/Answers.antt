use Rattle.std.proofs.Common.{length, [], ◌∷◌, sym, ap, subst, arith, length-append}
use Rattle.table_numbered.specs.Hints.{AreHints}
use Rattle.table_numbered.proofs.Hinted.{nothing_named, hints_push}
use Rattle.table_numbered.proofs.hints.Hints.new.Goals as goal

pub hint-requires : goal.hint-requires
hint-requires g c = nothing_named c.args.seen.now.log

pub loop-made-preserved : goal.loop-made-preserved
loop-made-preserved g c = let inv = c.loop-made.invariant in let ws = c.loop-made.row.items in let w = c.hint.result in let items = c.push_reserved.ensures.items in let b = c.args.seen.now.book in record {
  hints = subst (AreHints b) (sym items) (hints_push b ws w inv.hints c.hint.ensures);
  long = omega (arith, ap length items, length-append ws (w ∷ []), inv.long);
  room = omega (arith, c.push_reserved.ensures.capacity, inv.room);
}
