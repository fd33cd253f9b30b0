use Rattle.interner.proofs.Numbers.{different_push}
use Rattle.interner.proofs.interner_of.InternerOf.add_alone.Goals as goal

pub returns-in_err-number-clause-different : goal.returns-in_err-number-clause-different
returns-in_err-number-clause-different g c = c.in_err-number.ensures.different

pub returns-in-Ok-clause-different : goal.returns-in-Ok-clause-different
returns-in-Ok-clause-different g c = rw c.in-Ok.ensures.added (different_push c.args.self.now _ c.in_ok-number.ensures.different c.requires.new)

pub returns-in-Err-clause-different : goal.returns-in-Err-clause-different
returns-in-Err-clause-different g c = rw c.in-Err.ensures.unchanged c.in_ok-number.ensures.different
