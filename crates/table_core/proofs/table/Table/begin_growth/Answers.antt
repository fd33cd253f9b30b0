use Rattle.std.proofs.Common.{◌∙◌, ap, List}
use Rattle.table_core.specs.Generations.{Gen, next_capacity, last_of, entries_of}
use Rattle.table_core.proofs.CodeTable.{doubles_more}
use Rattle.table_core.proofs.table.Table.begin_growth.Goals as goal

pub invariant_of-self : goal.invariant_of-self
invariant_of-self g c = record {
  allowed = c.self.invariant.allowed;
  doubles = rw c.new.ensures (doubles_more c.self.inside.first c.self.inside.generations.items c.self.inside.growing c.next_capacity-capacity.result c.self.invariant.doubles
      (c.next_capacity-capacity.ensures.value ∙ ap (λ (gs : List Gen). next_capacity c.self.inside.first (last_of gs)) c.as_slice.ensures.value) c.next_capacity-capacity.ensures.power);
  copies = λ g q. c.in_ok-source.ensures ∙ ap (λ (gs : List Gen). entries_of (last_of gs)) c.as_slice-2.ensures.value;
}
