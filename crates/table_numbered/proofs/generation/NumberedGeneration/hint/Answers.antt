use Rattle.std.proofs.Common.{sym, ◌∙◌, ap}
use Rattle.table_numbered.proofs.Hinted.{hint_of_book, taken_small}
use Rattle.table_numbered.proofs.generation.NumberedGeneration.hint.Goals as goal

pub add-requires-clause-hint : goal.add-requires-clause-hint
add-requires-clause-hint g c = let t = c.self.inside.row.of in
    hint_of_book t c.args.seen.now.book c.in-Some.hint.now (c.requires.of.0 ∙ sym (ap (λ x. x.of.book) c.self.view_is)) (c.in-Some.ensures.hint t.book c.self.invariant.1)

pub add-requires-clause-number : goal.add-requires-clause-number
add-requires-clause-number g c = taken_small g.L.Law.same g.L.Law.hash_of c.args.number c.args.seen.now.log c.requires.of.3 c.requires.taken
