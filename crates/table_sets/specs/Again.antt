-- That what was inserted into a set is found again.
use Rattle.std.specs.Prelude.{◌≡◌, Bool, List, Option, Some, Contains}
use Rattle.table_sets.specs.Sets.{IsShown, Finds, Inserts}
use Rattle.table_sets.specs.declared.inserted.Inserted.{Inserted}
use Rattle.table_sets.specs.declared.inserted.Inserted.TheVariants.{Refused}

-- each entry of the earlier set is one of the later
abbrev pub IsLater : {T : Type 0} → List T → List T → Type 0
IsLater {T} old new = (e : T) → Contains old e → Contains new e

module _ {T U : Type 0} (target : T → U) (same : U → U → Bool) where
  -- an insert leaves a later set, whatever it answers
  abbrev pub InsertsLater : Type 0
  InsertsLater = (old new : List T) (value : T) (r : Inserted T)
      → Inserts target same old new value r → IsLater old new

  -- what was inserted and not refused is found in every later set: a look-up shows an entry that is
  -- the same
  abbrev pub FindsAgain : Type 0
  FindsAgain = (old new later : List T) (value : T) (r : Inserted T) (found : Option U)
      → Inserts target same old new value r → ((back : T) → r ≡ Refused back → ⊥)
      → IsLater new later → Finds target (same (target value)) later found
      → (shown : U) × (found ≡ Some shown) × IsShown target (same (target value)) later shown
