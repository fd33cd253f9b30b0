-- Lists of calls on a table that one owner holds alone: when they are lawful, and what their
-- replies say.
use Rattle.std.specs.Prelude.{◌≡◌, ℕ, ◌++◌, Bool, true, List, Some, Contains}
use Rattle.std.specs.List.{flat_map}
use Rattle.std.specs.List.Sorted.{IsPermutation}
use Rattle.table_terms.specs.ListObject.{ListCall, ListReply, Insert, Lookup, Answers}
use Rattle.table_held.specs.Shown.{Shows, Stands, IsLawfulInsert, IsLawfulLookup, entries_of, equal}
use Rattle.table_held.specs.Calls.{IsRepliedAsList, given, handed_back, shown_as, asked}
use Rattle.table_held.specs.declared.runs.Call.{Call}
use Rattle.table_held.specs.declared.runs.Reply.{Reply}
use Rattle.table_held.specs.declared.runs.Call.TheVariants as call

-- the call is no insert
abbrev pub OnlyAsks : {T K : Type 0} → Call T K → Type 0
OnlyAsks (call.Insert hash value) = ⊥
OnlyAsks (call.Lookup hash key) = Unit {0}
OnlyAsks call.Len = Unit {0}

module _ {T U K : Type 0} (target : T → U) (same : U → U → Bool) (hash_of : U → ℕ)
    (eq : U → U → Bool → Type 0) (rehash : U → ℕ → Type 0) where
  -- on the values of the pool the closures of inserts answer by the law, and each insert comes
  -- with its value's hash
  pub record AreLawfulInserts (pool : List T) (calls : List (Call T K)) : Type 0 where
    pub eq_is : (v e : T) (answer : Bool) → Contains pool v → Contains pool e
        → eq (target v) (target e) answer → answer ≡ same (target v) (target e)
    pub rehash_is : (e : T) (h : ℕ) → Contains pool e → rehash (target e) h
        → h ≡ hash_of (target e)
    pub hash_is : (hash : ℕ) (value : T) → Contains calls (call.Insert hash value)
        → hash ≡ hash_of (target value)

  module _ (test : K → U → Bool → Type 0) (meets : K → U → Bool) (pool : List T) where
    -- on the values of the pool the test of this key answers as `meets`, and accepts only those
    -- of the hash
    pub record IsLawfulTest (hash : ℕ) (key : K) : Type 0 where
      pub test_is : (e : T) (answer : Bool) → Contains pool e → test key (target e) answer
          → answer ≡ meets key (target e)
      pub hash_is : (e : T) → Contains pool e → meets key (target e) ≡ true
          → hash_of (target e) ≡ hash

    -- the inserts are lawful, and so is the test of each look-up
    pub record AreLawful (calls : List (Call T K)) : Type 0 where
      pub inserts : AreLawfulInserts pool calls
      pub tests : (hash : ℕ) (key : K) → Contains calls (call.Lookup hash key)
          → IsLawfulTest hash key

module _ {X T P U : Type 0} (target : T → U) (same : U → U → Bool) (hash_of : U → ℕ)
    (s : Shows X T P) where
  -- each list that the table stands for answers the call with this reply, and the table then
  -- stands for the list after
  abbrev pub RepliesAsList : ListCall T → X → Reply T U → X → Type 0
  RepliesAsList c old r new =
      (M : List T) → Stands s old M →
      (q : ListReply T) × (N : List T) × (shown_as target q ≡ Some r)
      × Answers (equal target same hash_of) M c q N × Stands s new N

  -- a lawful insert is answered so, and keeps the table lawful
  abbrev pub InsertRepliesAsList : (U → U → Bool → Type 0) → (U → ℕ → Type 0) → X → ℕ → T
      → Reply T U → X → Type 0
  InsertRepliesAsList eq rehash old hash value r new =
      IsLawfulInsert target same hash_of eq rehash
      (s.lawful U target same hash_of old) (entries_of s old) hash value →
      s.lawful U target same hash_of new × RepliesAsList (Insert value) old r new

  -- a lawful look-up is answered so
  abbrev pub LookupRepliesAsList : (U → Bool → Type 0) → X → ℕ → Reply T U → Type 0
  LookupRepliesAsList answers t hash r =
      (p : U → Bool) → IsLawfulLookup target same hash_of answers
      (s.lawful U target same hash_of t) (entries_of s t) hash p →
      RepliesAsList (Lookup (λ v. p (target v))) t r t

  module _ {K : Type 0} (eq : U → U → Bool → Type 0) (rehash : U → ℕ → Type 0) where
    -- a lawful insert keeps the table lawful, and so does every other call
    abbrev pub CallStaysLawful : X → Call T K → X → Type 0
    CallStaysLawful old (call.Insert hash value) new =
        IsLawfulInsert target same hash_of eq rehash
        (s.lawful U target same hash_of old) (entries_of s old) hash value →
        s.lawful U target same hash_of new
    CallStaysLawful old _ new = s.lawful U target same hash_of old
        → s.lawful U target same hash_of new

    -- lawful inserts keep a lawful table lawful, whatever the tests of the look-ups answer
    abbrev pub RunStaysLawful : X → List (Call T K) → X → Type 0
    RunStaysLawful old calls new =
        s.lawful U target same hash_of old
        → AreLawfulInserts target same hash_of eq rehash (entries_of s old ++ flat_map given calls) calls
        → s.lawful U target same hash_of new

  module _ {K : Type 0} (eq : U → U → Bool → Type 0) (rehash : U → ℕ → Type 0)
      (test : K → U → Bool → Type 0) where
    -- the closures answer this call by the law and by `meets`, for its value and the entries
    abbrev pub IsLawfulCall : (K → U → Bool) → X → Call T K → Type 0
    IsLawfulCall meets old (call.Insert hash value) =
        IsLawfulInsert target same hash_of eq rehash
        (s.lawful U target same hash_of old) (entries_of s old) hash value
    IsLawfulCall meets old (call.Lookup hash key) =
        IsLawfulLookup target same hash_of (test key)
        (s.lawful U target same hash_of old) (entries_of s old) hash (meets key)
    IsLawfulCall meets old call.Len = s.lawful U target same hash_of old

    -- a lawful call is answered as each list that the table stands for answers it
    abbrev pub CallAnswers : X → Call T K → Reply T U → X → Type 0
    CallAnswers old c r new =
        (meets : K → U → Bool) → IsLawfulCall meets old c →
        s.lawful U target same hash_of new × RepliesAsList (asked target meets c) old r new

    -- the table is lawful, and the calls are, for its entries and the values that they hand in
    abbrev pub IsLawfulRun : (K → U → Bool) → X → List (Call T K) → Type 0
    IsLawfulRun meets old calls =
        s.lawful U target same hash_of old
        × AreLawful target same hash_of eq rehash test meets (entries_of s old ++ flat_map given calls) calls

    -- lawful calls keep the table lawful, and are answered by a list run, from each list that the
    -- table stands for to one that it then stands for
    abbrev pub RunAnswers : X → List (Call T K) → List (Reply T U) → X → Type 0
    RunAnswers old calls replies new =
        (meets : K → U → Bool) → IsLawfulRun meets old calls →
        s.lawful U target same hash_of new
        × ((M : List T) → Stands s old M →
        (N : List T) × IsRepliedAsList target same meets M calls replies N × Stands s new N)

-- with any closures: the entries before and the values handed in are the entries after and the
-- values handed back
abbrev pub RunKeeps : {T U K : Type 0} → List T → List (Call T K) → List (Reply T U) → List T
    → Type 0
RunKeeps old calls replies new = IsPermutation (old ++ flat_map given calls) (new ++ flat_map handed_back replies)
