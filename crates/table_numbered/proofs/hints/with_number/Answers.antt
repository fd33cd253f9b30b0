use Rattle.std.proofs.Common.{inl, inr}
use Rattle.table_numbered.proofs.Hinted.{added_named, added_others}
use Rattle.table_numbered.proofs.hints.with_number.Goals as goal

pub returns-clause-named : goal.returns-clause-named
returns-clause-named c = added_named c.of_group-bits.result c.args.number c.of_group-bits.ensures.group

pub returns-clause-others : goal.returns-clause-others
returns-clause-others c = λ k is. elim (added_others c.of_group-bits.result c.args.number c.of_group-bits.ensures.group k is) [
  | inl here ↦ inl here
  | inr other ↦ inr (c.of_group-bits.ensures.names k other)
]
