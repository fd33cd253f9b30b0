-- A set as its callers see it: a list of entries, of which no two are the same, in some order.
use Rattle.std.specs.Prelude.{◌≡◌, ◌++◌, ⊤, Bool, true, false, List, [], ◌∷◌, Option, Some, None, Contains}
use Rattle.std.specs.List.Sorted.{IsPermutation}
use Rattle.std.specs.Borrow.{Bor}
use Rattle.table_terms.specs.Laws as laws
use Rattle.table_sets.specs.declared.inserted.Inserted.{Inserted}
use Rattle.table_sets.specs.declared.inserted.Inserted.TheVariants.{Placed, Found, Refused}
use Rattle.table_sets.specs.declared.inserted.Shown.{Shown}
use Rattle.table_sets.specs.declared.inserted.Shown.TheVariants as show

module _ {T U : Type 0} (target : T → U) where
  -- no entry passes the test
  abbrev pub NonePasses : (U → Bool) → List T → Type 0
  NonePasses test entries = (e : T) → Contains entries e → test (target e) ≡ false

  -- this is the target of an entry, and passes the test
  pub record IsShown (test : U → Bool) (entries : List T) (shown : U) : Type 0 where
    pub entry : T
    pub among : Contains entries entry
    pub shown_is : shown ≡ target entry
    pub passes : test shown ≡ true

  -- an entry passes the test
  abbrev pub OnePasses : (U → Bool) → List T → Type 0
  OnePasses test entries = (shown : U) × IsShown test entries shown

  -- a look-up shows an entry that passes the test, and None only where none does
  abbrev pub Finds : (U → Bool) → List T → Option U → Type 0
  Finds test entries (Some shown) = IsShown test entries shown
  Finds test entries None = NonePasses test entries

  module _ (same : U → U → Bool) where
    -- no two entries are the same
    abbrev pub AllApart : List T → Type 0
    AllApart entries = laws.AllApart (λ x e. same x (target e)) entries

    -- a value is placed where no entry is the same, and comes back otherwise; one that is refused
    -- comes back too, and then no entry is the same. The order of the entries may change
    abbrev pub Inserts : List T → List T → T → Inserted T → Type 0
    Inserts old new value Placed =
        NonePasses (same (target value)) old × IsPermutation (old ++ value ∷ []) new
    Inserts old new value (Found back) =
        OnePasses (same (target value)) old × (back ≡ value) × IsPermutation old new
    Inserts old new value (Refused back) =
        NonePasses (same (target value)) old × (back ≡ value) × IsPermutation old new

    -- the same, where the target of the entry is shown
    abbrev pub InsertShows : List T → T → Shown (Bor U) T → Type 0
    InsertShows old value (show.Placed shown) =
        NonePasses (same (target value)) old × (shown.now ≡ target value)
    InsertShows old value (show.Found shown back) =
        IsShown (same (target value)) old shown.now × (back ≡ value)
    InsertShows old value (show.Refused back) =
        NonePasses (same (target value)) old × (back ≡ value)

    -- the answer without what it shows
    abbrev pub unshown : Shown (Bor U) T → Inserted T
    unshown (show.Placed shown) = Placed
    unshown (show.Found shown back) = Found back
    unshown (show.Refused back) = Refused back

    -- what is shown is the target of an entry
    abbrev pub ShowsEntry : List T → Shown (Bor U) T → Type 0
    ShowsEntry entries (show.Placed shown) =
        (e : T) × Contains entries e × (shown.now ≡ target e)
    ShowsEntry entries (show.Found shown back) =
        (e : T) × Contains entries e × (shown.now ≡ target e)
    ShowsEntry entries (show.Refused back) = ⊤

    -- what an insert that shows its entry leaves: the entries are those that an insert with this answer
    -- leaves, no two of them are the same, and what is shown is the target of one
    pub record InsertLeaves (old : List T) (value : T) (shows : Shown (Bor U) T)
        (new : List T) : Type 0 where
      pub inserts : Inserts old new value (unshown shows)
      pub apart : AllApart new
      pub shows_entry : ShowsEntry new shows
