use Rattle.std.proofs.Common.{◌≡◌, ◌∙◌, ◌∷◌}
use Rattle.std.proofs.lemmas.List.Elements.{All-head, All-tail}
use Rattle.table_generations.proofs.values.rest.Rest.drop_rest.Goals as goal

pub drop_rest-requires : goal.drop_rest-requires
drop_rest-requires g c =
    let split : c.loop-generation.self ≡ c.in-Some.generation ∷ c.next_generation.new.self = c.in-Some.ensures in
    c.into_own_values.ensures.home ∙ All-head (λ g. g.home ≡ c.args.closed.now.id) _ _ (rw split at c.loop-generation.invariant)

pub loop-generation-preserved : goal.loop-generation-preserved
loop-generation-preserved g c =
    let split : c.loop-generation.self ≡ c.in-Some.generation ∷ c.next_generation.new.self = c.in-Some.ensures in
    All-tail (λ g. g.home ≡ c.args.closed.now.id) _ _ (rw split at c.loop-generation.invariant)
