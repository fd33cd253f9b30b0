use Rattle.std.proofs.Common.{sym, ◌∙◌}
use Rattle.table_core.specs.Generations.{last_of}
use Rattle.table_core.proofs.CodeTable.{first_capacity, twice, wanted_room}
use Rattle.table_core.proofs.table.next_capacity.Goals as goal

pub returns-in-Some-clause-power : goal.returns-in-Some-clause-power
returns-in-Some-clause-power g c = twice c.capacity.result c.capacity.ensures.power (λ q. wanted_room (last_of c.args.generations.now) c.in-Some.generation.now c.requires.room (sym c.in-Some.ensures) (sym c.capacity.ensures.value ∙ q))

pub returns-in-None-clause-power : goal.returns-in-None-clause-power
returns-in-None-clause-power g c = first_capacity c.args.first c.requires.allowed
