use Rattle.table_numbered.specs.Words.{of_value}
use Rattle.shared_set.proofs.Keeping.{knows_trans, none_before}
use Rattle.shared_set.proofs.handle.Handle.seek_or_try_insert_with.Goals as goal

pub make-requires : goal.make-requires
make-requires g c = c.requires.callable (none_before (of_value (g.S.Sought.accepts c.args.sought.now)) c.args.self.now.history c.seek.new.self.history c.seek.ensures.known.1 c.in-None.ensures.finds)

pub returns-in-Ok-clause-known : goal.returns-in-Ok-clause-known
returns-in-Ok-clause-known g c = knows_trans c.args.self.now c.seek.new.self c.insert.new.self c.seek.ensures.known c.insert.ensures.known
