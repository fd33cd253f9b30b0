-- What tables show to their callers, and what the calls on them say by it: with any closures,
-- with lawful ones, and in the words of the list object. A table held alone is one kind of table,
-- and shards of it are another.
use Rattle.std.specs.Prelude.{◌≡◌, ℕ, ◌++◌, Bool, true, false, List, [], ◌∷◌, Option, Some, None, Result, Ok, Err, Contains, length, option_map}
use Rattle.std.specs.List.Sorted.{IsPermutation}
use Rattle.std.specs.Borrow.{Bor}
use Rattle.table_terms.specs.ListObject.{ListReply, Placed, Found, Refused, Shown, Absent, Counted, Walked, Insert, Lookup, Length, Walk, Answers}
use Rattle.table_generations.specs.Buckets.{values_of}
use Rattle.table_generations.specs.Growth.{entry_of}
use Rattle.table_cell.specs.declared.bucket.Entry.{Entry}

-- how tables of type X show their entries, values of type T that live at places of type P
pub record Shows (X T P : Type 0) : Type 1 where
  -- the entries with their eight bits, in some order
  pub marked : X → List (Entry T)
  -- the entry that lives at a place, with its bits
  pub marked_at : X → P → Option (Entry T)
  -- the table counts its entries
  pub counted : X → Type 0
  -- the table is lawful, for the target of a value, an equality and a hash of targets
  pub lawful : (U : Type 0) → (T → U) → (U → U → Bool) → (U → ℕ) → X → Type 0

module _ {X T P : Type 0} (s : Shows X T P) where
  -- the entries
  abbrev pub entries_of : X → List T
  entries_of t = values_of (s.marked t)

  -- the value that lives at a place
  abbrev pub value_of : X → P → Option T
  value_of t p = option_map (λ e. e.value) (s.marked_at t p)

  -- this entry lives at the place
  pub record IsEntryAt (t : X) (p : P) (v : T) : Type 0 where
    pub lives : value_of t p ≡ Some v
    pub among : Contains (entries_of t) v

  -- each place keeps its entry, from one table to a later one
  abbrev pub IsLater : X → X → Type 0
  IsLater old new = (p : P) (v : T) → IsEntryAt old p v → IsEntryAt new p v

  -- each place keeps what it shows, the eight bits too
  abbrev pub KeepsPlaces : X → X → Type 0
  KeepsPlaces old new = (p : P) (e : Entry T) → s.marked_at old p ≡ Some e → s.marked_at new p ≡ Some e

  -- a table without entries is lawful for every equality and every hash
  abbrev pub LawfulWithoutEntries : {U : Type 0} → (T → U) → Type 0
  LawfulWithoutEntries {U} target = (t : X) → length (entries_of t) ≡ 0
      → (same : U → U → Bool) (hash_of : U → ℕ) → s.lawful U target same hash_of t

  -- the table is counted, and its entries are those of the list, in some order
  pub record Stands (t : X) (M : List T) : Type 0 where
    pub counted : s.counted t
    pub permuted : IsPermutation (entries_of t) M

  -- each list that the table stands for answers its length with this number
  abbrev pub CountsAsList : X → ℕ → Type 0
  CountsAsList t k = (equal : T → T → Bool) (M : List T) → Stands t M
      → Answers equal M Length (Counted k) M

  -- each list that the table stands for answers a walk with these entries
  abbrev pub WalksAsList : X → List T → Type 0
  WalksAsList t es = (equal : T → T → Bool) (M : List T) → Stands t M
      → Answers equal M Walk (Walked es) M

  -- these are the entries of the table, each once, in some order
  pub record GivesEntries (t : X) (es : List T) : Type 0 where
    pub permuted : IsPermutation (entries_of t) es
    pub as_list : WalksAsList t es

-- there is a value, and P of it
abbrev pub ShowsAt : {T : Type 0} → Option T → (T → Type 0) → Type 0
ShowsAt None P = ⊥
ShowsAt (Some v) P = P v

module _ {T U : Type 0} (target : T → U) where
  -- some entry has the shown target, and the test may accept it
  pub record FindsOne (answers : U → Bool → Type 0) (among_these : List T)
      (shown : U) : Type 0 where
    pub entry : T
    pub among : Contains among_these entry
    pub shown_is : shown ≡ target entry
    pub accepted : answers (target entry) true

  module _ {P : Type 0} (accepts : U → Bool → Type 0) (value_at : P → Option T) where
    -- with any closures: which entries the table then has, what the place shows and what comes
    -- back
    abbrev pub InsertKeeps : List T → T → Result (P × Option T) T → List T → Type 0
    InsertKeeps old value (Ok (p, None)) new = (value_at p ≡ Some value)
        × IsPermutation (old ++ value ∷ []) new
    InsertKeeps old value (Ok (p, Some back)) new = (back ≡ value)
        × ((e : T) × (value_at p ≡ Some e) × Contains old e × accepts (target e) true)
        × IsPermutation old new
    InsertKeeps old value (Err back) new = (back ≡ value) × IsPermutation old new

  module _ (same : U → U → Bool) (hash_of : U → ℕ) where
    -- no entry is the same as the value
    abbrev pub IsNew : List T → T → Type 0
    IsNew old value = (e : T) → Contains old e → same (target value) (target e) ≡ false

    -- the closures answer by the law for the value and the entries, and the hash is the value's
    pub record IsLawfulInsert (eq : U → U → Bool → Type 0) (rehash : U → ℕ → Type 0)
        (was_lawful : Type 0) (old : List T) (hash : ℕ) (value : T) : Type 0 where
      pub eq_is : (e : T) (answer : Bool) → Contains old e → eq (target value) (target e) answer
          → answer ≡ same (target value) (target e)
      pub rehash_is : (e : T) (h : ℕ) → Contains old e → rehash (target e) h
          → h ≡ hash_of (target e)
      pub rehash_value_is : (h : ℕ) → rehash (target value) h → h ≡ hash_of (target value)
      pub hash_is : hash ≡ hash_of (target value)
      pub table_is : was_lawful

    -- no entry is the same as the value, unless one was found
    abbrev pub IsNewUnlessFound : {P : Type 0} → List T → T → Result (P × Option T) T → Type 0
    IsNewUnlessFound old value (Ok (p, None)) = IsNew old value
    IsNewUnlessFound old value (Ok (p, Some back)) = Unit {0}
    IsNewUnlessFound old value (Err back) = IsNew old value

    -- a lawful insert keeps the table lawful, and places or refuses a value only where no entry
    -- is the same
    abbrev pub InsertAnswers : {P : Type 0} → (U → U → Bool → Type 0) → (U → ℕ → Type 0) → Type 0
        → List T → ℕ → T → Result (P × Option T) T → Type 0 → Type 0
    InsertAnswers eq rehash was_lawful old hash value r now_lawful =
        IsLawfulInsert eq rehash was_lawful old hash value → now_lawful
        × IsNewUnlessFound old value r

    -- the test is the function p on the entries, which accepts only entries of this hash
    pub record IsLawfulLookup (answers : U → Bool → Type 0) (is_lawful : Type 0)
        (among_these : List T) (hash : ℕ) (p : U → Bool) : Type 0 where
      pub test_is : (e : T) (answer : Bool) → Contains among_these e → answers (target e) answer
          → answer ≡ p (target e)
      pub hash_is : (e : T) → Contains among_these e → p (target e) ≡ true
          → hash_of (target e) ≡ hash
      pub table_is : is_lawful

    -- with a lawful test, it accepts no entry
    abbrev pub FindsNone : (U → Bool → Type 0) → Type 0 → List T → ℕ → Type 0
    FindsNone answers is_lawful among_these hash =
        (p : U → Bool) → IsLawfulLookup answers is_lawful among_these hash p → (e : T)
        → Contains among_these e → p (target e) ≡ false

-- with any closures: the entries after an insert carry the bits that they had, and a placed value
-- those of its hash
abbrev pub InsertMarks : {T P : Type 0} → List (Entry T) → ℕ → T → Result (P × Option T) T
    → List (Entry T) → Type 0
InsertMarks old hash value (Ok (p, None)) new = IsPermutation (old ++ entry_of value hash ∷ []) new
InsertMarks old hash value (Ok (p, Some back)) new = IsPermutation old new
InsertMarks old hash value (Err back) new = IsPermutation old new

-- an insert's result, as a reply of the list object; a place shows the entry that lives there
abbrev pub InsertReplies : {T P : Type 0} → (P → Option T) → Result (P × Option T) T
    → ListReply T → Type 0
InsertReplies entry_of_place (Ok (p, None)) r = ShowsAt (entry_of_place p) (λ e. r ≡ Placed e)
InsertReplies entry_of_place (Ok (p, Some back)) r =
    ShowsAt (entry_of_place p) (λ e. r ≡ Found e back)
InsertReplies entry_of_place (Err back) r = r ≡ Refused back

-- a look-up's result, as a reply of the list object: the target shown is that of the entry found
abbrev pub LookupReplies : {T U : Type 0} → (T → U) → Option U → ListReply T → Type 0
LookupReplies {T} target (Some shown) r = (e : T) × (shown ≡ target e) × (r ≡ Shown e)
LookupReplies target None r = r ≡ Absent

module _ {T U : Type 0} (target : T → U) (same : U → U → Bool) (hash_of : U → ℕ) where
  -- values are equal if their targets are the same
  abbrev pub equal : T → T → Bool
  equal v w = same (target v) (target w)

  module _ {X P : Type 0} (s : Shows X T P) where
    -- a lawful insert is answered as each list that the table stands for answers it, and the
    -- table then stands for the list after
    abbrev pub PlacesAsList : (U → U → Bool → Type 0) → (U → ℕ → Type 0) → X → ℕ → T
        → Result (P × Option T) T → X → Type 0
    PlacesAsList eq rehash old hash value result new =
        IsLawfulInsert target same hash_of eq rehash
        (s.lawful U target same hash_of old) (entries_of s old) hash value →
        (M : List T) → Stands s old M →
        (r : ListReply T) × (N : List T) × InsertReplies (value_of s new) result r
        × Answers equal M (Insert value) r N × Stands s new N

    -- a lawful look-up is answered as each list that the table stands for answers it
    abbrev pub LooksUpAsList : (U → Bool → Type 0) → X → ℕ → Option U → Type 0
    LooksUpAsList answers t hash result =
        (p : U → Bool)
        → IsLawfulLookup target same hash_of answers
        (s.lawful U target same hash_of t) (entries_of s t) hash p →
        (M : List T) → Stands s t M →
        (r : ListReply T) × LookupReplies target result r
        × Answers equal M (Lookup (λ v. p (target v))) r M

    -- all that an insert says of its result and of the table that it leaves
    pub record InsertSays (eq : U → U → Bool → Type 0) (rehash : U → ℕ
        → Type 0) (old : X) (hash : ℕ) (value : T)
        (r : Result (P × Option T) T) (new : X) : Type 0 where
      pub keeps : InsertKeeps target (eq (target value)) (value_of s new)
          (entries_of s old) value r (entries_of s new)
      pub marks : InsertMarks (s.marked old) hash value r (s.marked new)
      pub later : IsLater s old new
      pub counted : s.counted new
      pub lawful : InsertAnswers target same hash_of eq rehash
          (s.lawful U target same hash_of old) (entries_of s old) hash value r
          (s.lawful U target same hash_of new)
      pub as_list : PlacesAsList eq rehash old hash value r new

module _ {T U : Type 0} (target : T → U) {X P : Type 0} (s : Shows X T P) where
  -- what is shown at once is the target of the entry that lives at the place
  abbrev pub ResultShows : Result (P × Option T) T → Result (Bor U × Option T) T → X → Type 0
  ResultShows (Ok (p, back)) (Ok (shown, out)) new = (out ≡ back)
      × ShowsAt (value_of s new p) (λ e. shown.now ≡ target e)
  ResultShows (Ok (p, back)) (Err out) new = ⊥
  ResultShows (Err back) (Ok (shown, out)) new = ⊥
  ResultShows (Err back) (Err out) new = out ≡ back
