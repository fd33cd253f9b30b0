use Rattle.interner.proofs.Numbers.{up_to_all}
use Rattle.interner.proofs.interner.Interner.intern_alone.Goals as goal

pub returns-clause-interns : goal.returns-clause-interns
returns-clause-interns g c = up_to_all _ _ _ c.intern_up_to.result c.intern_up_to.ensures.interns
