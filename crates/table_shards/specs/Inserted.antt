-- What an insert into a table over shards leaves, and what it shows at once.
use Rattle.std.specs.Prelude.{◌≡◌, ◌≢◌, ℕ, Bool, List, Option, Result, IfOk, length, map}
use Rattle.std.specs.Borrow.{Bor}
use Rattle.table_held.specs.Shown as shown
use Rattle.table_held.specs.Table.{HeldTable}
use Rattle.table_shards.specs.Shards.{shard_of, shard_at, sharded, LivesInItsShard}
use Rattle.table_shards.specs.declared.sharded.place.ShardPlace.{ShardPlace}

-- `shards` is the number of shards
module _ {T U : Type 0} (target : T → U) (same : U → U → Bool) (hash_of : U → ℕ)
    (shards : ℕ) where
  -- all that an insert says of its result and of the shards that it leaves
  pub record Inserted (eq : U → U → Bool → Type 0) (rehash : U → ℕ → Type 0)
      (old : List (HeldTable T)) (hash : ℕ) (value : T)
      (r : Result (ShardPlace × Option T) T) (new : List (HeldTable T)) : Type 0 where
    pub says : shown.InsertSays target same hash_of sharded eq rehash old hash value r new
    pub places : shown.KeepsPlaces sharded old new
    pub home : IfOk r (λ placed. placed.0.shard ≡ shard_of shards hash)
    pub inside : IfOk r (λ placed. LivesInItsShard new placed.0)
    pub others : (k : ℕ) → k ≢ shard_of shards hash → shard_at new k ≡ shard_at old k
    pub first : map (λ t. t.first_capacity) new ≡ map (λ t. t.first_capacity) old
    pub long : length new ≡ length old

  -- what an insert that shows its entry leaves: the shards are those after some answer of an insert,
  -- and what is shown is the entry at the place that the answer names
  abbrev pub InsertLeaves : (U → U → Bool → Type 0) → (U → ℕ → Type 0) → List (HeldTable T) → ℕ
      → T → Result (Bor U × Option T) T → List (HeldTable T) → Type 0
  InsertLeaves eq rehash old hash value shows new =
      (r : Result (ShardPlace × Option T) T) × Inserted eq rehash old hash value r new
      × shown.ResultShows target sharded r shows new

  -- what an insert shows at once: as one that leaves such shards
  abbrev pub InsertShows : (U → U → Bool → Type 0) → (U → ℕ → Type 0) → List (HeldTable T) → ℕ
      → T → Result (Bor U × Option T) T → Type 0
  InsertShows eq rehash old hash value shows =
      (new : List (HeldTable T)) × InsertLeaves eq rehash old hash value shows new
