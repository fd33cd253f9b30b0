-- What a generation that is made of another one's entries shows, and what an insert does to one
-- bucket.
use Rattle.std.specs.Prelude.{◌≡◌, ℕ, ◌⊎◌, ⊤, Bool, List, Option, Some, None, Result, Ok, Err, length, slice_set, take, Contains}
use Rattle.std.specs.List.Sorted.{IsPermutation}
use Rattle.table_terms.specs.Hashes.{bits_of}
use Rattle.table_generations.specs.Buckets.{Content, own, named, values, shown, shown_all, content_at}
use Rattle.table_generations.specs.Ways.{AllReached}
use Rattle.table_generations.specs.Probe.{IsPassed, IsAccepted, IsVacant}
use Rattle.table_cell.specs.declared.bucket.Entry.{Entry}
use Rattle.table_generations.specs.declared.fixed.Refusal.{Refusal}
use Rattle.table_generations.specs.declared.fixed.Refusal.TheVariants.{Full, NoMemory}

module _ {T U : Type 0} (target : T → U) (rehash : U → ℕ → Type 0) where
  -- a generation made of the entries of another by hashes that rehash may answer
  pub record IsRehashed (old new : List (Option (Entry T))) : Type 0 where
    pub kept : IsPermutation (values old) (values new)
    pub reached : (hash_of : U → ℕ)
        → ((e : Entry T) (h : ℕ) → Contains (values old) e → rehash (target e.value) h
        → h ≡ hash_of (target e.value)) → AllReached target hash_of new

-- the first empty bucket for this hash was set to a name
abbrev pub PutsName : {T U : Type 0} (target : T → U) → List (Content T) → List (Content T)
    → ℕ → Content T → Type 0
PutsName target old new hash name = (i : ℕ)
    × IsVacant target (λ _ _. ⊤) (shown_all old) hash i × (new ≡ slice_set old i name)

-- the entry that bucket i shows, if there is one, was named in the first empty bucket for this
-- hash
abbrev pub PutsShown : {T U : Type 0} (target : T → U) → List (Content T) → ℕ → ℕ
    → List (Content T) → List (Content T) → Type 0
PutsShown {T} target old i hash before after =
    ((shown (content_at old i) ≡ None) × (after ≡ before))
    ⊎ ((e : Entry T) × (shown (content_at old i) ≡ Some e) × PutsName target before after hash (named e))

-- where the first i entries of a generation were rehashed, the first k are
abbrev pub RehashesOn : {T U : Type 0} (target : T → U) (rehash : U → ℕ → Type 0)
    → List (Option (Entry T)) → ℕ → ℕ → List (Content T) → List (Content T) → Type 0
RehashesOn target rehash old i k before after =
    IsRehashed target rehash (take i old) (shown_all before)
    → IsRehashed target rehash (take k old) (shown_all after)

-- a value with the eight bits of the hash given
abbrev pub entry_of : {T : Type 0} → T → ℕ → Entry T
entry_of value hash = record { value = value; bits = bits_of hash }

module _ {T U : Type 0} (target : T → U) (answers : U → Bool → Type 0) where
  -- how one try to place a value over these buckets ends: it was placed in the first empty
  -- bucket, an entry was accepted as its equal, each bucket was passed, or its block was refused.
  -- P is how the bucket is named
  abbrev pub TryEnds : {P : Type 0} → List (Option (Entry T)) → ℕ → T → (P → ℕ → Type 0)
      → (P → ℕ → Type 0) → Type 0 → Type 0 → Result (P × Option T) (Refusal T) → Type 0
  TryEnds ps hash value placed found full kept (Ok (p, None)) = (i : ℕ)
      × IsVacant target answers ps hash i × placed p i
  TryEnds ps hash value placed found full kept (Ok (p, Some back)) =
      (i : ℕ) × IsAccepted target answers ps hash i × found p i × (back ≡ value) × kept
  TryEnds ps hash value placed found full kept (Err (Full back)) =
      IsPassed target answers ps hash (length ps) × full × (back ≡ value) × kept
  TryEnds ps hash value placed found full kept (Err (NoMemory back)) =
      ((i : ℕ) × IsVacant target answers ps hash i) × (back ≡ value) × kept

  -- what one try to place a value does to the buckets of a generation
  abbrev pub Inserts : List (Content T) → ℕ → T → Result (ℕ × Option T) (Refusal T)
      → List (Content T) → Type 0
  Inserts old hash value r new =
      TryEnds (shown_all old) hash value
      (λ p i. (p ≡ i) × (new ≡ slice_set old i (own (entry_of value hash))))
      (λ p i. p ≡ i)
      (Unit {0})
      (new ≡ old)
      r
