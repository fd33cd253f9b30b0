use Rattle.std.proofs.Common.{◌≡◌, ◌∷◌}
use Rattle.std.specs.Vec.Iter.{into_iter_items}
use Rattle.std.proofs.lemmas.List.Elements.{All-tail}
use Rattle.table_shared.specs.Lineages.{IsOpen}
use Rattle.table_shared.proofs.ending.drop_words.Goals as goal

pub loop-word-preserved : goal.loop-word-preserved
loop-word-preserved g c =
    let next : into_iter_items c.loop-word.word-iterator ≡ c.in-Some.word ∷ into_iter_items c.next.new.self = c.in-Some.ensures.steps.0 in
    All-tail (IsOpen c.args.closed.now.id c.args.later.alloc) _ _ (rw next at c.loop-word.invariant)
