use Rattle.std.proofs.Common.{sym}
use Rattle.table_numbered.proofs.Hinted.{hints_grow}
use Rattle.table_numbered.proofs.hints.load.Goals as goal

pub load_hint-word-requires : goal.load_hint-word-requires
load_hint-word-requires g c = (c.requires.hint.0, sym c.requires.hint.1, hints_grow)

pub returns-clause-taken : goal.returns-clause-taken
returns-clause-taken g c = hints_grow c.load_hint-word.result c.load_hint-word.new.seen.log c.learn.new.self.log c.learn.ensures.2 c.load_hint-word.ensures.3
