-- The way of a probe through the buckets of a generation, and when a generation is lawful.
use Rattle.std.specs.Prelude.{◌≡◌, ℕ, ◌<◌, Bool, List, Option, Some, length}
use Rattle.table_terms.specs.Hashes.{bits_of}
use Rattle.table_terms.specs.Laws.{AllApart}
use Rattle.table_terms.specs.Probes.{bucket_at}
use Rattle.table_generations.specs.Buckets.{values, value_at}
use Rattle.table_cell.specs.declared.bucket.Entry.{Entry}

module _ {X : Type 0} where
  -- bucket i is set
  abbrev pub IsHeld : List (Option X) → ℕ → Type 0
  IsHeld ps i = (v : X) × (value_at ps i ≡ Some v)

  -- bucket i lies on the cyclic way from the hash's first bucket, and every bucket before it on
  -- that way is set
  pub record IsReached (ps : List (Option X)) (hash i : ℕ) : Type 0 where
    pub steps : ℕ
    pub within : steps < length ps
    pub is : i ≡ bucket_at (length ps) hash steps
    pub way : (k : ℕ) → k < steps → IsHeld ps (bucket_at (length ps) hash k)

module _ {T U : Type 0} (target : T → U) (hash_of : U → ℕ) where
  -- each entry is reached from its hash
  abbrev pub AllReached : List (Option (Entry T)) → Type 0
  AllReached ps = (i : ℕ) (e : Entry T) → value_at ps i ≡ Some e
      → IsReached ps (hash_of (target e.value)) i

  -- each entry carries the eight bits of its hash
  abbrev pub AllMarked : List (Option (Entry T)) → Type 0
  AllMarked ps = (i : ℕ) (e : Entry T) → value_at ps i ≡ Some e
      → e.bits ≡ bits_of (hash_of (target e.value))

module _ {T U : Type 0} (target : T → U) (same : U → U → Bool) (hash_of : U → ℕ) where
  -- each entry is reached from its hash and carries its bits, and no two entries are the same
  pub record IsLawfulFor (ps : List (Option (Entry T))) : Type 0 where
    pub reached : AllReached target hash_of ps
    pub marked : AllMarked target hash_of ps
    pub apart : AllApart (λ x e. same x (target e.value)) (values ps)
