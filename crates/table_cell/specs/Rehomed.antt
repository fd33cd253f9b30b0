-- What the buckets of a row own, moved to another home.
use Rattle.std.specs.Prelude.{◌≡◌, ℕ, ◌<◌, ◌≤◌, List, length, slice_index_or, slice_set}
use Rattle.table_cell.specs.Contents.{BucketView, Content, Lies, KeepsOwn, NamesNone}
use Rattle.table_cell.specs.Rows.{content_at}

-- each bucket keeps the entry that it owned alone, and none that it named
pub record AreRehomed {T : Type 0} (old new : List (Content T)) : Type 0 where
  pub long : length new ≡ length old
  pub each : (i : ℕ) → i < length old → KeepsOwn (content_at old i) (content_at new i)

module _ {A T : Type 0} (home : ℕ) (from : A) where
  -- a bucket of the other home that has what this one owned
  pub record IsRehomed (old new : BucketView A T) : Type 0 where
    pub lies : Lies home from new
    pub own : KeepsOwn old.content new.content
    pub unnamed : NamesNone new.content

  -- bucket i was moved to the other home
  pub record RehomesAt (i : ℕ) (old new : List (BucketView A T)) : Type 0 where
    pub bucket : BucketView A T
    pub set : new ≡ slice_set old i bucket
    pub moved : IsRehomed (slice_index_or old i bucket) bucket

  -- the first i buckets were moved to the other home
  pub record AreMovedBelow (i : ℕ) (old new : List (BucketView A T)) : Type 0 where
    pub long : length new ≡ length old
    pub moved : (k : ℕ) (d : BucketView A T) → k < i → k < length old
        → IsRehomed (slice_index_or old k d) (slice_index_or new k d)
    pub left : (k : ℕ) (d : BucketView A T) → i ≤ k
        → slice_index_or new k d ≡ slice_index_or old k d
