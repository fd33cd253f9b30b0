-- What a probe answers.
use Rattle.std.specs.Prelude.{◌≡◌, ◌≢◌, ◌⊎◌, ℕ, ◌<◌, Bool, true, false, List, Option, Some, None, length}
use Rattle.table_terms.specs.Hashes.{bits_of}
use Rattle.table_terms.specs.Probes.{bucket_at}
use Rattle.table_generations.specs.Buckets.{value_at}
use Rattle.table_cell.specs.declared.bucket.Entry.{Entry}
use Rattle.table_generations.specs.declared.fixed.Comparison.{Comparison}
use Rattle.table_generations.specs.declared.fixed.Comparison.TheVariants as comparison
use Rattle.table_generations.specs.declared.fixed.ProbeEnd.{ProbeEnd}
use Rattle.table_generations.specs.declared.fixed.ProbeEnd.TheVariants.{Accepted, Vacant, Full}

module _ {T U : Type 0} (target : T → U) (answers : U → Bool → Type 0) where
  -- there is an entry with these bits, and the test gave yes for its target
  pub record IsAcceptedBy (bits : ℕ) (shown : Option (Entry T)) : Type 0 where
    pub entry : Entry T
    pub held : shown ≡ Some entry
    pub marked : entry.bits ≡ bits
    pub accepted : answers (target entry.value) true

  -- there is an entry, and it has other bits or the test gave no for its target
  pub record IsPassedBy (bits : ℕ) (shown : Option (Entry T)) : Type 0 where
    pub entry : Entry T
    pub held : shown ≡ Some entry
    pub refused : (entry.bits ≢ bits) ⊎ answers (target entry.value) false

  -- what a probe for these bits learns of one bucket
  abbrev pub ComparisonGives : ℕ → Option (Entry T) → Comparison T → Type 0
  ComparisonGives bits shown comparison.Vacant = shown ≡ None
  ComparisonGives bits shown comparison.Different = IsPassedBy bits shown
  ComparisonGives bits shown (comparison.Accepted entry) = IsAcceptedBy bits shown
      × (shown ≡ Some entry.now)

  module _ (ps : List (Option (Entry T))) (hash : ℕ) where
    -- each of the first d buckets of the probe holds an entry that was not accepted
    pub record IsPassed (d : ℕ) : Type 0 where
      pub refused : (k : ℕ) → k < d
          → IsPassedBy (bits_of hash) (value_at ps (bucket_at (length ps) hash k))

    -- the probe passed the buckets before i, and accepted the entry there
    pub record IsAccepted (i : ℕ) : Type 0 where
      pub steps : ℕ
      pub within : steps < length ps
      pub is : i ≡ bucket_at (length ps) hash steps
      pub passed : IsPassed steps
      pub accepted : IsAcceptedBy (bits_of hash) (value_at ps i)

    -- the probe passed the buckets before i, and i is empty
    pub record IsVacant (i : ℕ) : Type 0 where
      pub steps : ℕ
      pub within : steps < length ps
      pub is : i ≡ bucket_at (length ps) hash steps
      pub passed : IsPassed steps
      pub vacant : value_at ps i ≡ None

    -- how a probe of the buckets of a generation ends
    abbrev pub ProbeGives : ProbeEnd T → Type 0
    ProbeGives (Accepted i entry) = IsAccepted i × (value_at ps i ≡ Some entry.now)
    ProbeGives (Vacant i) = IsVacant i
    ProbeGives Full = IsPassed (length ps)
