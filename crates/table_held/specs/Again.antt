-- That a place stays good, and that a value that was inserted is found again.
use Rattle.std.specs.Prelude.{◌≡◌, ℕ, Bool, true, Option, Some, Ok, Contains}
use Rattle.table_terms.specs.Laws.{IsLaw, AllApart}
use Rattle.table_cell.specs.declared.bucket.Entry.{Entry}
use Rattle.table_held.specs.Shown.{Shows, IsEntryAt, IsLater, IsLawfulInsert, InsertKeeps, LooksUpAsList, entries_of, value_of}

module _ {X T P : Type 0} (s : Shows X T P) where
  -- a table is later than itself, and than all that its earlier ones are later than
  abbrev pub LaterIsReflexive : Type 0
  LaterIsReflexive = (t : X) → IsLater s t t

  abbrev pub LaterIsTransitive : Type 0
  LaterIsTransitive = (a b c : X) → IsLater s a b → IsLater s b c → IsLater s a c

  -- an insert that was not refused names the place of an entry of the table that it leaves
  abbrev pub AnswersLive : {U : Type 0} (target : T → U) (eq : U → U → Bool → Type 0) → Type 0
  AnswersLive target eq =
      (old new : X) (value : T) (p : P) (back : Option T) →
      InsertKeeps target (eq (target value)) (value_of s new)
      (entries_of s old) value (Ok (p, back)) (entries_of s new) →
      (e : T) × IsEntryAt s new p e

  module _ {U : Type 0} (target : T → U) (same : U → U → Bool) (hash_of : U → ℕ) where
    -- no two entries of a lawful table are the same
    abbrev pub LawfulIsApart : Type 0
    LawfulIsApart =
        IsLaw same hash_of → (t : X) → s.lawful U target same hash_of t
        → AllApart (λ y (e : Entry T). same y (target e.value)) (s.marked t)

    -- a lawful insert of x was not refused: it named this place, and left this table
    pub record WasInserted (eq : U → U → Bool → Type 0) (rehash : U → ℕ → Type 0) (x : T) (p : P)
        (new : X) : Type 0 where
      pub old : X
      pub hash : ℕ
      pub back : Option T
      pub lawful : IsLawfulInsert target same hash_of eq rehash
          (s.lawful U target same hash_of old) (entries_of s old) hash x
      pub keeps : InsertKeeps target (eq (target x)) (value_of s new) (entries_of s old) x
          (Ok (p, back)) (entries_of s new)

    -- a look-up of x on the lawful table t, by the test "same as x", answers this
    pub record LooksFor (answers : U → Bool → Type 0) (x : T) (t : X)
        (result : Option U) : Type 0 where
      pub counted : s.counted t
      pub lawful : s.lawful U target same hash_of t
      pub test_is : (e : T) (answer : Bool) → Contains (entries_of s t) e
          → answers (target e) answer → answer ≡ same (target x) (target e)
      pub told : LooksUpAsList target same hash_of s answers t (hash_of (target x)) result

    -- on every later table that is still lawful, a look-up of x shows the entry that lives at the
    -- place that its insert named
    abbrev pub FindsAgain : (U → U → Bool → Type 0) → (U → ℕ → Type 0) → (U → Bool → Type 0)
        → Type 0
    FindsAgain eq rehash answers =
        (x : T) (p : P) (t later : X) (result : Option U) →
        WasInserted eq rehash x p t → IsLater s t later → LooksFor answers x later result →
        (e : T) × (value_of s t p ≡ Some e) × (same (target x) (target e) ≡ true)
        × (result ≡ Some (target e))
