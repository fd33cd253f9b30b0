-- What the value behind a `&mut` ends as, where a call lends of it by `&`.
use Rattle.std.specs.Prelude.{⊤}
use Rattle.std.specs.Borrow.{Fml, RattleType, MutBor, follows_so}
use mathlib.Core.Option.{none}

-- P holds of the value of type R that the loan s ends with, whenever it ends
abbrev pub RestsAs : (R : RattleType) → MutBor R.Denot → (R.Denot → Type 0) → Fml
RestsAs R s P = follows_so R R s.ghost_name none (λ _ _. ⊤) P
