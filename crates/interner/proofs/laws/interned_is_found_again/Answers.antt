use Rattle.interner.proofs.Numbers.{found_again}
use Rattle.interner.proofs.laws.interned_is_found_again.Goals as goal

pub returns : goal.returns
returns c = found_again
