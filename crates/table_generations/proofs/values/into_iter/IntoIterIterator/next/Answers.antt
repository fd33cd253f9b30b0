use Rattle.std.proofs.Common.{◌≡◌, ◌∙◌, ◌∷◌, ap, sym, length}
use Rattle.std.proofs.lemmas.List.Elements.{All-head, All-tail}
use Rattle.table_generations.proofs.Walks.{next_left}
use Rattle.table_generations.proofs.values.into_iter.IntoIterIterator.next.Goals as goal

pub loop-value-preserved : goal.loop-value-preserved
loop-value-preserved g c =
    let split : c.loop-value.self-inside.rest ≡ c.in_ok-next_generation.field-0 ∷ c.next_generation.new.self = c.in_ok-next_generation.ensures in
    let others = rw split at c.loop-value.invariant.1.others in
    let same = next_left c.loop-value.self-inside.values c.into_own_values.result c.in_ok-next_generation.field-0 c.loop-value.self-inside.rest c.next_generation.new.self
    c.in_default.ensures.first.0 c.into_own_values.ensures.values split in (
      same ∙ c.loop-value.invariant.0,
      record {
        first_is = c.into_own_values.ensures.home ∙ All-head (λ g. g.home ≡ c.loop-value.self-inside.closed.id) _ _ others;
        others = All-tail (λ g. g.home ≡ c.loop-value.self-inside.closed.id) _ _ others;
        counted = c.loop-value.invariant.1.counted ∙ ap length (sym same);
      },
    )
