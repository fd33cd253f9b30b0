-- What a thread knows of a chain in which each number is greater than the one before.
use Rattle.std.specs.Prelude.{ℕ, ◌<◌, List}
use Rattle.logbook.specs.Pages.{Book}
use Rattle.table_chain.specs.History.{History}
use Rattle.table_chain.specs.Chains.{ChainView, IsOf}

abbrev pub Sees : ChainView ℕ → Book → List ℕ → History ℕ → Type 0
Sees c b names log = IsOf (λ n. Unit {0}) (λ m n. m < n) c b names log
