use Rattle.std.proofs.Common.{ap, refl}
use Rattle.table_core.specs.declared.call.Phase.TheVariants.{Placed}
use Rattle.table_shared.specs.Carried.{table_in}
use Rattle.table_shared.proofs.Between.{carries, counts_value}
use Rattle.table_shared.proofs.Stepping.{carries_on}
use Rattle.table_shared.proofs.insert.between.Inserting.count.Goals as goal

pub count-self-requires-clause-stands : goal.count-self-requires-clause-stands
count-self-requires-clause-stands g c = c.args.self.now.between.stands (rw c.requires.phase tt)

pub invariant_of-self : goal.invariant_of-self
invariant_of-self g c = record { between = counts_value c.args.self.now.between c.count-self.result c.requires.phase c.count-self.ensures.counted }

pub returns : goal.returns
returns g c = carries_on g.E.Fn _ _ _ c.count-self.ensures.went (carries c.args.self.now.between Placed c.requires.phase refl) refl refl

pub count-self-requires-clause-lock : goal.count-self-requires-clause-lock
count-self-requires-clause-lock g c = c.args.self.now.between.of_table c.in-Shared.guard.home (ap table_in c.in-Shared.is)
