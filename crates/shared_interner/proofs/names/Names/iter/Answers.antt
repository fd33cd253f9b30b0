use Rattle.shared_interner.proofs.Walked.{never_twice, gives_named, gives_all}
use Rattle.shared_interner.proofs.names.Names.iter.Goals as goal

pub returns-clause-apart : goal.returns-clause-apart
returns-clause-apart g c = never_twice c.iter.result c.iter.ensures.apart

pub returns-clause-named : goal.returns-clause-named
returns-clause-named g c = gives_named c.iter.result c.iter.ensures.entries

pub returns-clause-all : goal.returns-clause-all
returns-clause-all g c = gives_all c.iter.new.self.history c.iter.result c.iter.ensures.all
