-- What calls through `&` see of a bucket: what it was set to alone, or else what a note of it then knows.
use Rattle.std.specs.Prelude.{◌≡◌, ◌≢◌, ℕ, Option, Some, None, IfSome, IfNone}
use Rattle.table_cell.specs.Contents.{Keeps}
use Rattle.table_cell.specs.declared.bucket.Entry.{Entry}
use Rattle.table_generations.specs.Buckets.{Content, shown}
use Rattle.table_generations.specs.declared.fixed.shared.Look.{Look}
use Rattle.table_generations.specs.declared.fixed.shared.Look.TheVariants as look

module _ {T : Type 0} where
  -- what a look for these bits tells of what a bucket shows
  abbrev pub Tells : ℕ → Option (Entry T) → Look T → Type 0
  Tells sought o look.Vacant = o ≡ None
  Tells sought o look.Other = (e : Entry T) × (o ≡ Some e) × (e.bits ≢ sought)
  Tells sought o (look.Alike entry) = (o ≡ Some entry.now) × (entry.now.bits ≡ sought)

  -- P holds of what the bucket was set to alone, and the note is as it was; or of what the note then
  -- knows, which it keeps
  pub record IsSeen (c : Content T) (old new : Option (Entry T)) (P : Option (Entry T) → Type 0) : Type 0 where
    pub alone : IfSome (shown c) (λ e. P (Some e) × (new ≡ old))
    pub shared : IfNone (shown c) (P new × Keeps old new)
