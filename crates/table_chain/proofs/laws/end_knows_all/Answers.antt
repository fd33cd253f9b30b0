use Rattle.std.proofs.Common.{ap, subst}
use mathlib.Core.List.{IsPrefix}
use Rattle.table_chain.proofs.Chained.{stands_on}
use Rattle.table_chain.proofs.laws.end_knows_all.Goals as goal

pub returns : goal.returns
returns g c = λ p x there. let both = c.learn.new.self.log in let e = c.learn.ensures in let on = subst (λ l. IsPrefix l both) (ap (λ t. t.log) c.again-both.ensures) e.2 in
    c.requires.ended both on e.4 p x (stands_on g.F.Follows.begins g.F.Follows.follows c.args.other.now.log both p x e.3 there)
