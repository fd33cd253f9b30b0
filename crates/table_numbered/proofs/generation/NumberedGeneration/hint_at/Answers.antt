use Rattle.table_numbered.proofs.generation.NumberedGeneration.hint_at.Goals as goal

pub hint-requires-clause-taken : goal.hint-requires-clause-taken
hint-requires-clause-taken g c = let there = c.in-Some.ensures.number in (there.0, (c.args.index, there.1))
