-- What an insert answers.
use Rattle.std.specs.Prelude.{◌≡◌, ℕ, ◌++◌, ◌⊎◌, Bool, [], ◌∷◌, Some, Result, Ok, Err}
use Rattle.std.specs.Borrow.{Bor}
use Rattle.table_slab.specs.Held.{IsReceiptFor}
use Rattle.table_numbered.specs.Words.{mark_of, numbered, of_value}
use Rattle.table_numbered.specs.History.{History, event, size_of, IsEntry, NonePasses}
use Rattle.table_numbered.specs.Generations.{Passes, HasRoom, HasNoRoom}
use Rattle.table_numbered.specs.declared.event.Numbered.{Numbered}
use Rattle.table_numbered.specs.declared.event.Stored.TheVariants.{Entry}
use Rattle.shared_set.specs.declared.insert.Attempt.{Attempt}
use Rattle.shared_set.specs.declared.insert.Attempt.TheVariants as attempt
use Rattle.shared_set.specs.declared.insert.Inserted.{Inserted}
use Rattle.shared_set.specs.declared.insert.Inserted.TheVariants as inserted
use Rattle.shared_set.specs.Known.{SharedView, Keeps}

module _ {V : Type 0} (same : V → V → Bool) where
  -- v is placed with the number k in a history that has each entry that was known, and none of its entries is the same
  pub record IsPlaced (k : ℕ) (v : V) (old new : History (Numbered V)) : Type 0 where
    pub place : ℕ
    pub before : History (Numbered V)
    pub keeps : Keeps old before
    pub none : NonePasses (of_value (same v)) (IsEntry before)
    pub then : new ≡ before ++ event place (Some (Entry (numbered k v))) ∷ []

module _ {V : Type 0} (same : V → V → Bool) (hash : V → ℕ) where
  -- on its way through the buckets v passes others' entries, and comes to an empty bucket
  abbrev pub HasBucket : V → History (Numbered V) → Type 0
  HasBucket v log = HasRoom (same v) (size_of log) (mark_of (hash v)) log

  -- on its way v passes others' entries, in all buckets or in those before a closed one
  abbrev pub HasNoBucket : V → History (Numbered V) → Type 0
  HasNoBucket v log = HasNoRoom (same v) (size_of log) (mark_of (hash v)) log

  -- the way of v is known to its end: no entry there is the same
  abbrev pub IsProbed : V → History (Numbered V) → Type 0
  IsProbed v log = HasBucket v log ⊎ HasNoBucket v log

  -- what an insert of v answers, by the histories that its caller knew before and knows after
  abbrev pub Inserts : V → History (Numbered V) → History (Numbered V) → Inserted V → Type 0
  Inserts v old new (inserted.Placed k e r) = (e.now ≡ v) × IsPlaced same k v old new
  Inserts v old new (inserted.Found k e back) = (back ≡ v) × Passes (same v) (IsEntry new) k e.now
  Inserts v old new (inserted.Refused back) = (back ≡ v) × NonePasses (of_value (same v)) (IsEntry new) × IsProbed v new

  -- what an insert into one generation answers: memory is refused only where v has a bucket, and the generation is full only where it has none
  abbrev pub InsertsHere : V → History (Numbered V) → History (Numbered V) → Attempt V → Type 0
  InsertsHere v old new (attempt.Done (inserted.Placed k e r)) = (e.now ≡ v) × IsPlaced same k v old new
  InsertsHere v old new (attempt.Done (inserted.Found k e back)) = (back ≡ v) × Passes (same v) (IsEntry new) k e.now
  InsertsHere v old new (attempt.Done (inserted.Refused back)) = (back ≡ v) × NonePasses (of_value (same v)) (IsEntry new) × HasBucket v new
  InsertsHere v old new (attempt.Full back) = (back ≡ v) × NonePasses (of_value (same v)) (IsEntry new) × HasNoBucket v new

  -- what it answers where a full generation is to grow
  abbrev pub Attempts : V → History (Numbered V) → History (Numbered V) → Attempt V → Type 0
  Attempts v old new (attempt.Done it) = Inserts v old new it
  Attempts v old new (attempt.Full back) = (back ≡ v) × NonePasses (of_value (same v)) (IsEntry new) × HasNoBucket v new

-- the entry that was placed or found, or the value that was refused
abbrev pub HasEntry : {V : Type 0} → Inserted V → Result (ℕ × Bor V) V → Type 0
HasEntry (inserted.Placed k e r) result = result ≡ Ok (k, e)
HasEntry (inserted.Found k e back) result = result ≡ Ok (k, e)
HasEntry (inserted.Refused back) result = result ≡ Err back

module _ {V : Type 0} (g : SharedView) where
  -- what was placed has a receipt: it is of this set, of the number and of the entry that is shown
  abbrev pub HasReceipt : Inserted V → Type 0
  HasReceipt (inserted.Placed k e r) = IsReceiptFor g.slab k e.now r
  HasReceipt (inserted.Found k e back) = Unit {0}
  HasReceipt (inserted.Refused back) = Unit {0}

  -- the same of an insert into one generation
  abbrev pub HasReceiptHere : Attempt V → Type 0
  HasReceiptHere (attempt.Done it) = HasReceipt it
  HasReceiptHere (attempt.Full back) = Unit {0}
