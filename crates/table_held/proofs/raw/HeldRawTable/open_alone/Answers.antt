use Rattle.std.proofs.Common.{rules}
use Rattle.table_generations.specs.Generations.{IsBlank}
use Rattle.table_held.proofs.Kept.{kept_open, table_open}
use Rattle.table_held.proofs.raw.HeldRawTable.open_alone.Goals as goal

pub invariant_of-self : goal.invariant_of-self
invariant_of-self g c =
    let made : IsBlank c.self.inside.alloc c.self.inside.home.id c.self.inside.first_capacity c.in_ok-self-inside.field-0 = search rules in (
      kept_open c.self.inside.first_capacity _ _ c.self.inside.current.size c.self.invariant.0 (search rules) _ _ made.vacant made.none,
      (c.self.invariant.1.0, made.of),
    )

pub returns-in_ok-self-inside-clause-opened : goal.returns-in_ok-self-inside-clause-opened
returns-in_ok-self-inside-clause-opened g c =
    let made : IsBlank c.self.inside.alloc c.self.inside.home.id c.self.inside.first_capacity c.in_ok-self-inside.field-0 = search rules in
    rw (← c.self.view_is) (table_open c.self.inside.first_capacity _ _ c.self.inside.current.size c.self.invariant.0 (search rules) _ _ made.vacant made.none)
