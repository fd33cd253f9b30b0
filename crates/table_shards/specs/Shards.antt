-- A table over several shards, as its callers see it: the list of its shards.
use Rattle.std.specs.Prelude.{◌≡◌, ℕ, ◌*◌, ◌-◌, ◌/◌, ◌^◌, ◌<◌, ◌≤◌, Bool, List, Option, Contains, max, min, length, replicate, slice_index_or}
use Rattle.std.specs.List.{flat_map, sum_by}
use Rattle.table_terms.specs.ListObject.{greatest_length}
use Rattle.table_cell.specs.declared.bucket.Entry.{Entry}
use Rattle.table_held.specs.Shown as shown
use Rattle.table_held.specs.Shown.{Shows}
use Rattle.table_held.specs.Table as table
use Rattle.table_held.specs.Table.{HeldTable, empty_table, all_buckets}
use Rattle.table_shards.specs.declared.sharded.place.ShardPlace.{ShardPlace}

-- the shard of a hash: its top bits, where the number of shards is a power of two
abbrev pub shard_of : ℕ → ℕ → ℕ
shard_of shards hash = hash * shards / 2 ^ 64

-- the sum of a count over lists, which stops at the greatest usize
abbrev pub capped_sum : {X : Type 0} → (X → ℕ) → List X → ℕ
capped_sum count xs = min (sum_by count xs) greatest_length

module _ {T : Type 0} where
  -- the shard of this number; past the last one there is a table without a generation
  abbrev pub shard_at : List (HeldTable T) → ℕ → HeldTable T
  shard_at ts k = slice_index_or ts k (empty_table 0)

  -- the entries with their eight bits, shard by shard
  abbrev pub marked : List (HeldTable T) → List (Entry T)
  marked ts = flat_map table.marked ts

  -- the entry that lives at a place, with its bits
  abbrev pub marked_at : List (HeldTable T) → ShardPlace → Option (Entry T)
  marked_at ts p = table.marked_at (shard_at ts p.shard) p.place

  -- each shard counts its entries
  abbrev pub AreCounted : List (HeldTable T) → Type 0
  AreCounted ts = (k : ℕ) → k < length ts → table.IsCounted (shard_at ts k)

  -- all shards are new, with this first capacity
  abbrev pub empty_shards : ℕ → ℕ → List (HeldTable T)
  empty_shards shards first = replicate shards (empty_table first)

  -- all generations of this shard together have few buckets for its entries
  abbrev pub HasFewBuckets : HeldTable T → Type 0
  HasFewBuckets t = all_buckets t
      ≤ max t.first_capacity (8 * length (table.entries t) - t.first_capacity)

module _ {T U : Type 0} (target : T → U) (same : U → U → Bool) (hash_of : U → ℕ) where
  -- each shard is lawful, and each entry lies in the shard of its hash
  pub record AreLawful (ts : List (HeldTable T)) : Type 0 where
    pub each : (k : ℕ) → k < length ts → table.IsLawful target same hash_of (shard_at ts k)
    pub home : (k : ℕ) (v : T) → k < length ts → Contains (table.entries (shard_at ts k)) v
        → shard_of (length ts) (hash_of (target v)) ≡ k

-- the shards are lawful for every equality and every hash
abbrev pub AreLawfulForAll : {T U : Type 0} → (T → U) → List (HeldTable T) → Type 0
AreLawfulForAll {T} {U} target ts = (same : U → U → Bool) (hash_of : U → ℕ)
    → AreLawful target same hash_of ts

-- a table over shards shows its entries so
abbrev pub sharded : {T : Type 0} → Shows (List (HeldTable T)) T ShardPlace
sharded = record {
  marked = marked;
  marked_at = marked_at;
  counted = AreCounted;
  lawful = λ U target same hash_of ts. AreLawful target same hash_of ts;
}

module _ {T : Type 0} where
  -- the entries, shard by shard
  abbrev pub entries : List (HeldTable T) → List T
  entries ts = shown.entries_of sharded ts

  -- the value that lives at a place
  abbrev pub entry_at : List (HeldTable T) → ShardPlace → Option T
  entry_at ts p = shown.value_of sharded ts p

  -- what lives at the place is an entry of the shard that it names
  abbrev pub LivesInItsShard : List (HeldTable T) → ShardPlace → Type 0
  LivesInItsShard ts p = (e : T) × table.IsEntryAt (shard_at ts p.shard) p.place e
