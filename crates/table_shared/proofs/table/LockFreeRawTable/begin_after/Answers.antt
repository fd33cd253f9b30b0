use Rattle.std.proofs.Common.{◌∙◌}
use Rattle.table_core.proofs.ByPhase.{power_some}
use Rattle.table_shared.proofs.Starts.{twice_as_fresh}
use Rattle.table_shared.proofs.table.LockFreeRawTable.begin_after.Goals as goal

pub begun-requires-clause-fresh : goal.begun-requires-clause-fresh
begun-requires-clause-fresh g c =
    twice_as_fresh c.self.inside.home.id c.in-Some-doubled.capacity c.args.current.generation c.in_ok-built.built c.in_ok-built.ensures
    c.in-Some-doubled.ensures.twice c.in-Some-doubled.ensures.power (power_some _ c.requires.power) ((rw (← c.self.view_is) at c.requires.home) ∙ c.self.invariant.1)
