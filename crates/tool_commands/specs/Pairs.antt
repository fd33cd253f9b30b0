-- Tables of pairs, and what a list of pairs is told.
use Rattle.std.specs.Prelude.{◌≡◌, ℕ, ◌+◌, ◌*◌, ◌<◌, ◌++◌, List, [], ◌∷◌, Option, Some, None, Result, Ok, Err, length, map, min, Contains}
use Rattle.std.specs.declared.boxed.Box.{Box}
use Rattle.std.specs.List.Sorted.{IsPermutation}
use Rattle.std.specs.Prelude.{IsSorted}
use Rattle.std.specs.Ordering.{nat_cmp}
use Rattle.table_held.specs.Shown.{Shows, Stands}
use Rattle.table_held.specs.Capacity.{IsDoubled}
use Rattle.table_held.specs.Table.{HeldTable, held, capacity, all_buckets}
use Rattle.table_shards.specs.Shards.{sharded, capped_sum, shard_at, HasFewBuckets}
use Rattle.table_terms.specs.Laws.{same_pair, pair_hash}
use Rattle.table_terms.specs.ListObject.{greatest_length}
use Rattle.table_terms.specs.declared.insertion.Insertion.{Insertion}
use Rattle.table_terms.specs.declared.insertion.Insertion.TheVariants.{Placed, Found, Refused}

-- how an insert of the pair x ends on a list of pairs, and the list after
abbrev pub InsertsPair : List (ℕ × ℕ) → ℕ × ℕ → Insertion → List (ℕ × ℕ) → Type 0
InsertsPair ps x Placed qs = ¬ Contains ps x × (qs ≡ ps ++ x ∷ [])
InsertsPair ps x Found qs = Contains ps x × (qs ≡ ps)
InsertsPair ps x Refused qs = ¬ Contains ps x × (qs ≡ ps)

-- a look-up of the pair x gives the second part of the pair that it finds
abbrev pub LooksUpPair : List (ℕ × ℕ) → ℕ × ℕ → Option ℕ → Type 0
LooksUpPair ps x (Some n) = Contains ps x × (n ≡ x.1)
LooksUpPair ps x None = ¬ Contains ps x

-- the second parts of all pairs, in ascending order
pub record ListsNumbers (ps : List (ℕ × ℕ)) (ns : List ℕ) : Type 0 where
  pub permuted : IsPermutation (map (λ x. x.1) ps) ns
  pub sorted : IsSorted nat_cmp ns

-- the second parts of the pairs of these values
abbrev pub numbers_of : {T : Type 0} → (T → ℕ × ℕ) → List T → List ℕ
numbers_of pair_of es = map (λ x. x.1) (map pair_of es)

module _ {X T P : Type 0} (s : Shows X T P) (pair_of : T → ℕ × ℕ) where
  -- the table is lawful for pairs
  abbrev pub IsPairTable : X → Type 0
  IsPairTable t = s.lawful (ℕ × ℕ) pair_of same_pair pair_hash t

  -- the table is lawful, and stands for a list of these pairs
  abbrev pub HoldsPairs : X → List (ℕ × ℕ) → Type 0
  HoldsPairs t ps = IsPairTable t × (M : List T) × Stands s t M × (map pair_of M ≡ ps)

-- what tables of pairs of type X show beside their pairs
pub record PairCounts (X : Type 0) : Type 1 where
  -- the first capacity of each raw table
  pub first : X → List ℕ
  -- the buckets of the current generations
  pub capacity : X → ℕ
  -- the buckets of all generations
  pub buckets : X → ℕ
  -- the length that is told of so many entries
  pub told : ℕ → ℕ
  -- how a capacity comes from a first one
  pub doubled : X → Type 0
  -- how few the buckets of all generations are
  pub few : X → Type 0

-- a raw table counts so: there are as many buckets as twice the capacity, less the first one
abbrev pub raw_counts : {T : Type 0} → PairCounts (HeldTable T)
raw_counts = record {
  first = λ t. t.first_capacity ∷ [];
  capacity = capacity;
  buckets = all_buckets;
  told = λ n. n;
  doubled = λ t. IsDoubled t.first_capacity (capacity t);
  few = λ t. 0 < capacity t → all_buckets t + t.first_capacity ≡ 2 * capacity t;
}

-- shards count so: by sums, which stop at the greatest usize; each shard has few buckets
abbrev pub sharded_counts : {T : Type 0} → PairCounts (List (HeldTable T))
sharded_counts = record {
  first = λ ts. map (λ t. t.first_capacity) ts;
  capacity = λ ts. capped_sum capacity ts;
  buckets = λ ts. capped_sum all_buckets ts;
  told = λ n. min n greatest_length;
  doubled = λ ts. Unit {0};
  few = λ ts. (k : ℕ) → k < length ts → HasFewBuckets (shard_at ts k);
}

-- what tables of pairs of type X show to who asks them
pub record ShowsPairs (X : Type 0) : Type 1 where
  -- the table holds a list of these pairs
  pub holds : X → List (ℕ × ℕ) → Type 0
  pub counts : PairCounts X

-- a raw table of boxed pairs shows them so
abbrev pub raw_pairs : {A : Type 0} → ShowsPairs (HeldTable (Box (ℕ × ℕ) A))
raw_pairs = record { holds = HoldsPairs held (λ b. b.value); counts = raw_counts }

-- shards of boxed pairs show them so
abbrev pub sharded_pairs : {A : Type 0} → ShowsPairs (List (HeldTable (Box (ℕ × ℕ) A)))
sharded_pairs = record { holds = HoldsPairs sharded (λ b. b.value); counts = sharded_counts }

-- how an insert ended that was answered so
abbrev pub insertion_of : {T P : Type 0} → Result (P × Option T) T → Insertion
insertion_of (Ok (p, None)) = Placed
insertion_of (Ok (p, Some back)) = Found
insertion_of (Err back) = Refused

-- on each list of pairs that the old table holds, an insert of the pair x ends so, and the new table
-- holds the list after
abbrev pub InsertsAsPairs : {X : Type 0} → ShowsPairs X → X → ℕ × ℕ → Insertion → X → Type 0
InsertsAsPairs s old x how new = (ps : List (ℕ × ℕ)) → s.holds old ps
    → (qs : List (ℕ × ℕ)) × InsertsPair ps x how qs × s.holds new qs

-- the second parts of the pairs that the table holds are appended to a list, in any order
abbrev pub AppendsNumbers : {X : Type 0} → ShowsPairs X → X → List ℕ → List ℕ → Type 0
AppendsNumbers s t old new = (ps : List (ℕ × ℕ)) → s.holds t ps
    → (ns : List ℕ) × (new ≡ old ++ ns) × IsPermutation (map (λ x. x.1) ps) ns
