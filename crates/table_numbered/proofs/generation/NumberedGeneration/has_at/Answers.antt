use Rattle.std.proofs.lemmas.Bool.{eqb-false}
use Rattle.table_numbered.specs.Words.{numbered}
use Rattle.table_numbered.proofs.Walked.{same_number_at}
use Rattle.table_numbered.proofs.generation.NumberedGeneration.has_at.Goals as goal

pub returns-in-Some-clause-other : goal.returns-in-Some-clause-other
returns-in-Some-clause-other g c differs there = eqb-false c.in-Some.theirs c.args.number differs
    (same_number_at g.L.Law.same g.L.Law.hash_of c.number_at.new.seen.log c.args.index c.in-Some.theirs c.args.number c.number_at.ensures.of.3 c.in-Some.ensures.number there)

pub returns-in-None-clause-other : goal.returns-in-None-clause-other
returns-in-None-clause-other g c not_there there = c.in-None.ensures.number (numbered c.args.number there.0) there.1
