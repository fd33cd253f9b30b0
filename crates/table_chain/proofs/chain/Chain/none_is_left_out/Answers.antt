use Rattle.table_chain.proofs.Chained.{below}
use Rattle.table_chain.proofs.chain.Chain.none_is_left_out.Goals as goal

pub returns : goal.returns
returns g c = record { below = λ p q x there le. let b = below g.F.Follows.begins g.F.Follows.follows c.args.seen.now.log c.requires.of.3 p q there.0 x le there.1 in (b.1, (b.0, b.2)) }
