use Rattle.shared_set.proofs.handle.Handle.contains.Goals as goal

pub returns-in-Some-clause-some : goal.returns-in-Some-clause-some
returns-in-Some-clause-some g c is = let found = c.in-Some.ensures.finds in (found.0, c.in-Some.field-0.now, found.1)
