use Rattle.std.proofs.Common.{sym, subst}
use Rattle.std.specs.Int.{IsPowerOfTwo}
use Rattle.table_terms.proofs.Masks.{power_of_two}
use Rattle.seated.proofs.table.NumberTable.word_count.Goals as goal

pub returns-clause-power : goal.returns-clause-power
returns-clause-power _ c = subst IsPowerOfTwo (sym c.word_count.ensures) (power_of_two _ c.args.self.now.power)
