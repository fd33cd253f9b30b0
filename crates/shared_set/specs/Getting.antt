-- What a call answers that looks for an entry, and inserts a value only if there is none.
use Rattle.std.specs.Prelude.{◌≡◌, ℕ, Bool, Result, Ok, Err}
use Rattle.std.specs.Borrow.{Bor}
use Rattle.table_numbered.specs.Words.{of_value}
use Rattle.table_numbered.specs.History.{History, IsEntry, NonePasses}
use Rattle.table_numbered.specs.Generations.{Passes}
use Rattle.table_numbered.specs.declared.event.Numbered.{Numbered}
use Rattle.shared_set.specs.declared.insert.Inserted.{Inserted}
use Rattle.shared_set.specs.declared.get_or_insert.GotOrInserted.{GotOrInserted}
use Rattle.shared_set.specs.declared.get_or_insert.GotOrInserted.TheVariants as got
use Rattle.shared_set.specs.Known.{SharedView, Keeps}
use Rattle.shared_set.specs.Inserting.{Inserts, HasEntry, HasReceipt}

module _ {V : Type 0} (same : V → V → Bool) (hash : V → ℕ) (accepts : V → Bool) (IsMade : V → Type 0) where
  -- none of the entries that were known was accepted, and so a value was made, and its insert ended so
  pub record MakesAndInserts (old new : History (Numbered V)) (it : Inserted V) : Type 0 where
    pub at : History (Numbered V)
    pub keeps : Keeps old at
    pub none : NonePasses (of_value accepts) (IsEntry at)
    pub value : V
    pub made : IsMade value
    pub inserts : Inserts same hash value at new it

  -- what the call answers, by the histories that its caller knew before and knows after
  abbrev pub GetsOrInserts : History (Numbered V) → History (Numbered V) → GotOrInserted V → Type 0
  GetsOrInserts old new (got.Got k e) = Passes accepts (IsEntry new) k e.now
  GetsOrInserts old new (got.Made it) = MakesAndInserts old new it

-- what the call answers if it may be that no value was made: none of the entries that are known was accepted then
abbrev pub TriesToInsert : {V E : Type 0} → (V → V → Bool) → (V → ℕ) → (V → Bool) → (Result V E → Type 0) → History (Numbered V) → History (Numbered V) → Result (GotOrInserted V) E → Type 0
TriesToInsert same hash accepts IsMade old new (Ok it) = GetsOrInserts same hash accepts (λ v. IsMade (Ok v)) old new it
TriesToInsert same hash accepts IsMade old new (Err e) = NonePasses (of_value accepts) (IsEntry new) × IsMade (Err e)

-- the entry that was there or was placed, or the value that was refused
abbrev pub GetsEntry : {V : Type 0} → GotOrInserted V → Result (ℕ × Bor V) V → Type 0
GetsEntry (got.Got k e) result = result ≡ Ok (k, e)
GetsEntry (got.Made it) result = HasEntry it result

-- what was made and placed has a receipt
abbrev pub GetsReceipt : {V : Type 0} → SharedView → GotOrInserted V → Type 0
GetsReceipt g (got.Got k e) = Unit {0}
GetsReceipt g (got.Made it) = HasReceipt g it
