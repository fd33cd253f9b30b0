use Rattle.std.proofs.Common.{ℕ, ◌∙◌, ap, sym, subst}
use Rattle.table_terms.specs.Laws.{same_number}
use Rattle.table_numbered.specs.History.{History, IsEntry}
use Rattle.table_numbered.specs.declared.event.Numbered.{Numbered}
use Rattle.shared_set.specs.Known.{KnownView, SomePasses}
use Rattle.demo_examples.proofs.Told.{where_some}
use Rattle.demo_examples.proofs.beginning.begin_with_number.Goals as goal

pub returns : goal.returns
returns g c = record {
  there = λ is. subst (λ (h : History (Numbered ℕ)). SomePasses (same_number c.args.number) (IsEntry h))
      (sym (c.begin_with.ensures.known ∙ ap (λ (k : KnownView ℕ). k.history) c.tell-known.ensures))
      (where_some c.put-told.result c.put-told.ensures.there (sym c.is_some.ensures ∙ is));
}
