-- Shards without entries are lawful: what the table over shards promises as a table held alone.
use Rattle.std.specs.Prelude.{◌≡◌, ℕ, zero, suc, List, [], ◌∷◌, length}
use Rattle.std.proofs.Common.{refl, arith}
use Rattle.std.proofs.lemmas.List.{length-map, length-append}
use Rattle.table_held.specs.Empty.{held_without_entries}
use Rattle.table_held.specs.Shown.{LawfulWithoutEntries}
use Rattle.table_held.specs.Table as table
use Rattle.table_held.specs.Table.{HeldTable}
use Rattle.table_shards.specs.Shards.{sharded, shard_at, marked}

module _ {T : Type 0} where
  -- where the shards have no entry, none of them has one
  none_in_shard : (ts : List (HeldTable T)) (k : ℕ) → length (marked ts) ≡ 0 → length (table.marked (shard_at ts k)) ≡ 0
  none_in_shard [] k none = refl
  none_in_shard (t ∷ ts) zero none = omega (arith, length-append (table.marked t) (marked ts))
  none_in_shard (t ∷ ts) (suc k) none = none_in_shard ts k (omega (arith, length-append (table.marked t) (marked ts)))

  none_there : (ts : List (HeldTable T)) (k : ℕ) → length (marked ts) ≡ 0 → length (table.entries (shard_at ts k)) ≡ 0
  none_there ts k none = rw length-map (none_in_shard ts k none)

pub shards_without_entries : {T U : Type 0} (target : T → U) → LawfulWithoutEntries sharded target
shards_without_entries target ts none same hash_of =
    let nothing : length (marked ts) ≡ 0 = rw length-map at none in
    record {
      each = λ k within. held_without_entries target (shard_at ts k) (none_there ts k nothing) same hash_of;
      home = λ k v within among. absurd (omega (arith, none_there ts k nothing, among.1));
    }
