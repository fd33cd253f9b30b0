use Rattle.std.proofs.Common.{suc, refl, subst}
use Rattle.table_chain.proofs.Chained.{one_value}
use Rattle.table_chain.proofs.chain.Chain.each_follows.Goals as goal

pub returns-clause-first : goal.returns-clause-first
returns-clause-first g c = λ x there. (c.requires.of.3.1.joined 0 x there).first refl

pub returns-clause-later : goal.returns-clause-later
returns-clause-later g c = λ p x there. (c.requires.of.3.1.joined (suc p) x there).behind p refl

pub returns-clause-follows : goal.returns-clause-follows
returns-clause-follows g c = λ p f x here there. let b = (c.requires.of.3.1.joined (suc p) x there).behind p refl in
    subst (λ y. g.F.Follows.follows y x) (one_value g.F.Follows.begins g.F.Follows.follows c.args.seen.now.log p b.1.0 here.0 b.0 f c.requires.of.3 b.1.1 here.1) b.2
