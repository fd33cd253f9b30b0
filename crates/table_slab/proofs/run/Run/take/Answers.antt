use Rattle.std.proofs.Common.{◌≡◌, ◌<◌, ◌∷◌, sym, refl, ap, ◌∙◌, arith}
use Rattle.table_slab.specs.declared.rights.Rooms.{Rooms}
use Rattle.table_slab.proofs.Places.{few_numbers}
use Rattle.table_slab.proofs.Runs.{next_slot, next_rest}
use Rattle.table_slab.proofs.run.Run.take.Goals as goal

pub overflow_add-self : goal.overflow_add-self
overflow_add-self g c = let some : 0 < c.args.self.now.left = omega arith in let are = c.requires.of.1 some in omega (arith, few_numbers are.small are.at)

pub returns-clause-number : goal.returns-clause-number
returns-clause-number g c = λ s of. let some : 0 < c.args.self.now.left = omega arith in
    let begins : c.args.self.now.rooms.names ≡ c.first-room.result.0.of ∷ c.first-room.result.1.names = ap (λ (r : Rooms g.row.T.Denot). r.names) (sym c.replace.ensures.value) ∙ c.first-room.ensures.names in
    rw (c.again-site.ensures.0, c.again-site.ensures.1) (next_slot s c.args.self.now c.first-room.result.0.of c.first-room.result.1.names (of some) begins some c.in-Some.site c.in-Some.is)

pub returns-clause-rest : goal.returns-clause-rest
returns-clause-rest g c = λ s of more. let some : 0 < c.args.self.now.left = omega arith in
    let begins : c.args.self.now.rooms.names ≡ c.first-room.result.0.of ∷ c.first-room.result.1.names = ap (λ (r : Rooms g.row.T.Denot). r.names) (sym c.replace.ensures.value) ∙ c.first-room.ensures.names in
    next_rest s c.args.self.now c.first-room.result.0.of c.first-room.result.1.names (of some) begins some c.first-room.result.1 refl more
