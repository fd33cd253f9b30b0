-- What a thread knows of a chain in which anything may stand.
use Rattle.std.specs.Prelude.{ℕ, List}
use Rattle.logbook.specs.Pages.{Book}
use Rattle.table_chain.specs.History.{History, Stands}
use Rattle.table_chain.specs.Chains.{ChainView, IsOf}

-- the chain has come so far, and its first value is known
abbrev pub Knows : {G : Type 0} → ChainView G → Book → List ℕ → History G → Type 0
Knows {G} c b names log = IsOf (λ g. Unit {0}) (λ f g. Unit {0}) c b names log × (g : G) × Stands log 0 g
