use Rattle.std.proofs.Common.{ap, subst}
use mathlib.Core.List.{IsPrefix}
use Rattle.table_chain.proofs.Chained.{all_handed_out}
use Rattle.table_chain.proofs.laws.values_are_all.Goals as goal

pub returns-clause-count : goal.returns-clause-count
returns-clause-count g c = λ p x there. let both = c.learn.new.self.log in let e = c.learn.ensures in let on = subst (λ l. IsPrefix l both) (ap (λ t. t.log) c.again-both.ensures) e.2 in
    (all_handed_out g.F.Follows.begins g.F.Follows.follows c.args.seen.now.log c.args.other.now.log both c.args.values.now.items c.requires.values c.requires.ended on e.3 e.4 p x there).0

pub returns-clause-each : goal.returns-clause-each
returns-clause-each g c = λ p x there. let both = c.learn.new.self.log in let e = c.learn.ensures in let on = subst (λ l. IsPrefix l both) (ap (λ t. t.log) c.again-both.ensures) e.2 in
    (all_handed_out g.F.Follows.begins g.F.Follows.follows c.args.seen.now.log c.args.other.now.log both c.args.values.now.items c.requires.values c.requires.ended on e.3 e.4 p x there).1
