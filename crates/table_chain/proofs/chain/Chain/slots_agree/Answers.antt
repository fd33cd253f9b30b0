use Rattle.std.proofs.Common.{ap, subst}
use mathlib.Core.List.{IsPrefix}
use Rattle.table_chain.specs.declared.event.Stored.TheVariants.{Shown}
use Rattle.table_chain.proofs.Trades.{later}
use Rattle.table_chain.proofs.Chained.{one_value}
use Rattle.table_chain.proofs.chain.Chain.slots_agree.Goals as goal

pub returns : goal.returns
returns g c = λ p f x one other. let both = c.learn.new.self.log in let e = c.learn.ensures in
    one_value g.F.Follows.begins g.F.Follows.follows both p one.0 other.0 f x e.4
    (later c.args.one.now.log both p one.0 (Shown f) (subst (λ l. IsPrefix l both) (ap (λ x. x.log) c.again-both.ensures) e.2) one.1) (later c.args.other.now.log both p other.0 (Shown x) e.3 other.1)
