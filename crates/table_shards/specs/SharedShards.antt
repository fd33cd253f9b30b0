-- A table over shards that threads share, as its callers see it: the list of its shards.
use Rattle.std.specs.Prelude.{◌≡◌, ℕ, ◌+◌, ◌*◌, ◌^◌, ◌++◌, List, [], ◌∷◌, All, Option, Some, None, length, slice_index_or, slice_set}
use Rattle.std.specs.Iterator.{YieldsFirst, Drains}
use Rattle.std.specs.Borrow.{Bor}
use Rattle.table_shared.specs.Tables.{SharedTable}
use Rattle.table_shared.specs.Walks as raw
use Rattle.table_shared.specs.Walks.{WalkView}
use Rattle.table_shards.specs.Shards.{capped_sum}
use Rattle.table_held.specs.Table.{HeldTable, empty_table}

-- a walk over shards: those that it hasn't come to, and the walk over the one that it is in
pub record ShardWalk (T : Type 0) : Type 0 where
  pub ahead : List (SharedTable T)
  pub walk : WalkView T

module _ {T : Type 0} where
  -- the shard of this number; past the last one there is a table without a generation
  abbrev pub shard_at : List (SharedTable T) → ℕ → SharedTable T
  shard_at ts k = slice_index_or ts k (record { first_capacity = 0; home = 0; latest = 0; shared = [] ∷ []; later = 0 })

  -- so many shards, none of which has a generation, and each of which will have this first capacity
  pub record AreEmptyShards (shards first : ℕ) (ts : List (SharedTable T)) : Type 0 where
    pub long : length ts ≡ shards
    pub capacities : All (λ t. t.first_capacity ≡ first) ts
    pub empty : All (λ t. t.shared ≡ [] ∷ []) ts

  -- a new walk is in the first shard, and all others are ahead
  pub record IsInFirst (ts : List (SharedTable T)) (walk : ShardWalk T) : Type 0 where
    pub first : SharedTable T
    pub others : ts ≡ first ∷ walk.ahead

  -- a step that shows something has gone on in its shard, as a walk over one does; or it has gone past some shards in their
  -- order, and then none of the entries that were set alone is left out of the shard that it was in
  pub record GoesOn {X : Type 0} (target : T → X) (old : ShardWalk T) (shown : Bor X) (new : ShardWalk T) : Type 0 where
    pub passed : List (SharedTable T)
    pub order : old.ahead ≡ passed ++ new.ahead
    pub stays : passed ≡ [] → raw.WalksOn target old.walk (Some shown) new.walk
    pub leaves : ¬ (passed ≡ []) → old.walk.alone ≡ []

  -- a walk goes through the shards, and ends for good after the last one, with no such entry left out
  abbrev pub WalksOn : {X : Type 0} → (T → X) → ShardWalk T → Option (Bor X) → ShardWalk T → Type 0
  WalksOn target old None new = (new.ahead ≡ []) × (new.walk.left ≡ 0) × (old.walk.alone ≡ [])
  WalksOn target old (Some shown) new = GoesOn target old shown new

  -- no more steps than this are left, since no shard has 2^64 buckets
  abbrev pub steps_left : ShardWalk T → ℕ
  steps_left walk = length walk.ahead * 2 ^ 64 + walk.walk.left

module _ {T : Type 0} where
  -- of lists that are handed out, this one has given its first element, or nothing where it was empty
  pub record GivesAt (k : ℕ) (old : List (List T)) (result : Option T) (new : List (List T)) : Type 0 where
    pub rest : List T
    pub kept : new ≡ slice_set old k rest
    pub gives : YieldsFirst (λ values. values) (slice_index_or old k []) result rest

-- this is the sum of the numbers that an iterator gives from here to its end, or the greatest usize if it is more
abbrev pub AddsUp : {I : Type 0} → (I → Option ℕ → I → Type 0) → I → ℕ → Type 0
AddsUp gives counts total = (ns : List ℕ) × Drains gives counts ns × (total ≡ capped_sum (λ n. n) ns)

module _ {T : Type 0} where
  -- a shard held alone was taken out and shared, with its first capacity and what its buckets show; an empty
  -- one is in its place
  pub record SharesOne (k : ℕ) (old : List (HeldTable T)) (shared : SharedTable T) (new : List (HeldTable T)) : Type 0 where
    pub taken : HeldTable T
    pub there : taken ≡ slice_index_or old k taken
    pub first : shared.first_capacity ≡ taken.first_capacity
    pub same : shared.shared ≡ taken.generations
    pub left : new ≡ slice_set old k (empty_table taken.first_capacity)

module _ {T : Type 0} where
  -- a shard that threads shared was taken out, and another is in its place
  pub record TakesOne (k : ℕ) (old new : List (SharedTable T)) : Type 0 where
    pub taken : SharedTable T
    pub there : taken ≡ slice_index_or old k taken
    pub other : SharedTable T
    pub left : new ≡ slice_set old k other
