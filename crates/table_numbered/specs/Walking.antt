-- What a walk over the buckets of a generation says of numbers.
use Rattle.std.specs.Prelude.{◌≡◌, ℕ}
use Rattle.table_numbered.specs.Words.{numbered}
use Rattle.table_numbered.specs.declared.event.Numbered.{Numbered}
use Rattle.table_numbered.specs.History.{History, Stands, IsEntry}

module _ {V : Type 0} where
  -- an entry of the history has the number k
  abbrev pub IsTaken : History (Numbered V) → ℕ → Type 0
  IsTaken log k = (x : V) × IsEntry log (numbered k x)

  -- the entry of the bucket p has the number k
  abbrev pub HasAt : History (Numbered V) → ℕ → ℕ → Type 0
  HasAt log p k = (x : V) × Stands log p (numbered k x)

  -- no bucket but p has an entry with the number k
  abbrev pub IsOnlyAt : History (Numbered V) → ℕ → ℕ → Type 0
  IsOnlyAt log p k = (q : ℕ) → HasAt log q k → q ≡ p
