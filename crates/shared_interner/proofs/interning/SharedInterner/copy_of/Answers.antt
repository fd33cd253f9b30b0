use Rattle.std.proofs.Common.{List, ℕ, ap, sym, subst, ◌∙◌}
use Rattle.shared_set.specs.Known.{KnownView}
use Rattle.shared_interner.specs.Sharing.{KeepsNumbers}
use Rattle.shared_interner.proofs.interning.SharedInterner.copy_of.Goals as goal

pub begin_with-requires : goal.begin_with-requires
begin_with-requires g c = record { of = ap (λ (v : KnownView (List ℕ)). v.of) (c.again.ensures ∙ c.tell-known.ensures) ∙ (c.take_all-taken.ensures.known.0 ∙ c.names-names.ensures.of) }

pub returns-in-Ok-taken : goal.returns-in-Ok-taken
returns-in-Ok-taken g c = record {
  shares = record {
    of = ap (λ (v : KnownView (List ℕ)). v.of) c.tell-known.ensures ∙ (c.take_all-taken.ensures.known.0 ∙ (c.names-names.ensures.of ∙ sym c.begin_with.ensures.of));
    numbers = subst (λ (v : KnownView (List ℕ)). KeepsNumbers c.args.texts.now v.history) (sym c.tell-known.ensures) c.in-Ok-taken.ensures.numbers;
    handles = c.begin_with.ensures.known ∙ ap (λ (v : KnownView (List ℕ)). v.history) c.again.ensures;
  };
}
