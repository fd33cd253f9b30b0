use Rattle.std.specs.Fn.{FnReturnsAtPair}
use Rattle.table_held.proofs.Again.{every_answer_lives}
use Rattle.table_held.proofs.runs.laws.answers_live.Goals as goal

pub returns : goal.returns
returns g c = every_answer_lives g.B.AloneTable.shows g.T.AtomicValue.target (FnReturnsAtPair g.E.Fn c.args.eq.now)
