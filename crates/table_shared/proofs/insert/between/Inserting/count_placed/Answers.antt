use Rattle.std.proofs.Common.{ap}
use Rattle.table_shared.specs.Carried.{table_in}
use Rattle.table_shared.proofs.insert.between.Inserting.count_placed.Goals as goal

pub count-counted-requires-clause-lock : goal.count-counted-requires-clause-lock
count-counted-requires-clause-lock g c = c.args.self.now.between.of_table c.in-Shared.guard.home (ap table_in c.in-Shared.is)
