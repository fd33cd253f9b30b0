use Rattle.std.proofs.Common.{sym, ◌∙◌}
use Rattle.table_numbered.proofs.Hinted.{taken_on, more_taken}
use Rattle.table_numbered.proofs.hints.add.Goals as goal

pub compare_exchange_hint-requires : goal.compare_exchange_hint-requires
compare_exchange_hint-requires g c = let inv = c.loop-tried.invariant in let e = c.load-word.ensures in let log = c.load-word.new.seen.log in (
  inv.hint.0,
  e.same.0 ∙ sym inv.hint.1,
  more_taken c.load-word.result c.with_number-more.result c.args.number log e.taken c.with_number-more.ensures.others (taken_on c.args.number c.loop-tried.later.log log e.longer inv.taken),
)

pub loop-tried-preserved : goal.loop-tried-preserved
loop-tried-preserved g c = let inv = c.loop-tried.invariant in let e = c.load-word.ensures in record {
  hint = (inv.hint.0, inv.hint.1 ∙ sym e.same.0);
  taken = taken_on c.args.number c.loop-tried.later.log c.load-word.new.seen.log e.longer inv.taken;
}
