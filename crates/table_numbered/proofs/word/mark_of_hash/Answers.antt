use Rattle.std.proofs.Common.{refl}
use Rattle.table_numbered.specs.Words.{mark_of}
use Rattle.table_numbered.proofs.word.mark_of_hash.Goals as goal

pub returns-clause-mark : goal.returns-clause-mark
unfolding mark_of
returns-clause-mark c = refl
