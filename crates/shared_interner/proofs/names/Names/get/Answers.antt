use Rattle.shared_interner.proofs.Named.{none_known}
use Rattle.shared_interner.proofs.names.Names.get.Goals as goal

pub returns-in-None-clause-finds : goal.returns-in-None-clause-finds
returns-in-None-clause-finds g c = none_known c.seek.new.self.history c.args.text.now c.in-None.ensures.finds
