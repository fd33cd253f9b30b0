use Rattle.std.proofs.Common.{◌∙◌, ap, refl, sym}
use Rattle.table_shared.specs.Carried.{met_in, value_in}
use Rattle.table_shared.proofs.Between.{accepts, holds_value}
use Rattle.table_shared.proofs.Stepping.{steps_unmet}
use Rattle.table_shared.proofs.insert.between.Inserting.keep.Goals as goal

pub unreachable-requires : goal.unreachable-requires
unreachable-requires g c =
    let holds = holds_value c.args.self.now.between c.requires.phase in
    c.in_default.not-Value holds.0 (c.replace.ensures.value ∙ holds.1)

pub invariant_of-self : goal.invariant_of-self
invariant_of-self g c =
    let b = c.args.self.now.between in
    record { between = accepts b c.args.next c.args.target c.in-Value.value c.requires.phase c.requires.found (b.stems c.in-Value.value (ap value_in (sym c.in-Value.ensures.value))) }

pub returns-clause-steps : goal.returns-clause-steps
returns-clause-steps g c = steps_unmet g.E.Fn _ _ _ c.requires.went (λ e. absurd (cc)) refl (ap met_in (sym c.in-Value.ensures.value)) c.requires.accepted
