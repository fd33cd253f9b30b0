use Rattle.shared_set.proofs.handle.Handle.get_by_key.Goals as goal

pub returns-in-Some-clause-finds : goal.returns-in-Some-clause-finds
returns-in-Some-clause-finds g c = (c.in-Some.found.0, c.in-Some.ensures.finds)
