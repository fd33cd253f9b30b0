-- What a bucket holds, and what its calls answer.
use Rattle.std.specs.Prelude.{◌≡◌, ◌≢◌, ℕ, ⊤, true, false, Option, Some, None, IfSome}
use Rattle.table_cell.specs.Words.{WordView, word_view}
use Rattle.table_cell.specs.declared.bucket.Entry.{Entry}
use Rattle.table_cell.specs.declared.bucket.Mark.{Mark}
use Rattle.table_cell.specs.declared.bucket.Mark.TheVariants as mark
use Rattle.table_cell.specs.declared.bucket.Refusal.{Refusal}
use Rattle.table_cell.specs.declared.bucket.Refusal.TheVariants as refusal
use Rattle.table_cell.specs.declared.bucket.Missed.{Missed}
use Rattle.table_cell.specs.declared.bucket.Missed.TheVariants as missed

-- a bucket: empty, with an entry of its own, or with the name of an entry that another bucket owns
pub data Content (T : Type 0) : Type 0 where
  vacant : Content T
  own : (entry : Entry T) → Content T
  named : (entry : Entry T) → Content T

-- a bucket with the allocator and the home of its block, and the name by which notes speak of what it is set to through `&`
pub record BucketView (A T : Type 0) : Type 0 where
  pub from : A
  pub home : ℕ
  pub id : ℕ
  pub content : Content T

-- a bucket that is set alone: no note speaks of it
abbrev pub bucket : {A T : Type 0} → A → ℕ → Content T → BucketView A T
bucket a h c = record { from = a; home = h; id = 0; content = c }

module _ {T : Type 0} where
  -- the entry that a bucket shows
  abbrev pub shown : Content T → Option (Entry T)
  shown vacant = None
  shown (own e) = Some e
  shown (named e) = Some e

  -- the entry that a bucket owns
  abbrev pub owned : Content T → Option (Entry T)
  owned vacant = None
  owned (own e) = Some e
  owned (named e) = None

  -- what a bucket holds that names the entry of another
  abbrev pub naming : Content T → Option (Content T)
  naming vacant = None
  naming (own e) = Some (named e)
  naming (named e) = Some (named e)

  -- the bucket names no entry that another one owns
  abbrev pub NamesNone : Content T → Type 0
  NamesNone vacant = ⊤
  NamesNone (own e) = ⊤
  NamesNone (named e) = ⊥

  -- what is kept of a bucket that is moved to another home: the entry that it owned alone, and none
  -- that it named
  abbrev pub KeepsOwn : Content T → Content T → Type 0
  KeepsOwn vacant new = ⊤
  KeepsOwn (own e) new = new ≡ own e
  KeepsOwn (named e) new = new ≡ vacant

  abbrev pub entry_from : T → ℕ → Entry T
  entry_from value bits = record { value = value; bits = bits }

  -- a mark has the bits of the entry that the bucket shows
  abbrev pub Reads : Content T → Mark → Type 0
  Reads c mark.Unmarked = c ≡ vacant
  Reads c (mark.Own bits) = (e : Entry T) × (c ≡ own e) × (e.bits ≡ bits)
  Reads c (mark.Named bits) = (e : Entry T) × (c ≡ named e) × (e.bits ≡ bits)

  -- the value comes back, as taken only from a bucket that was set
  abbrev pub HandsBack : Content T → T → Refusal T → Type 0
  HandsBack c value (refusal.Taken back) = (back ≡ value) × (c ≢ vacant)
  HandsBack c value (refusal.NoMemory back) = back ≡ value

  -- a note that knew an entry knows it still
  abbrev pub Keeps : Option (Entry T) → Option (Entry T) → Type 0
  Keeps old new = IfSome old (λ e. new ≡ Some e)

  -- the value comes back, as taken beside an entry: the one that the bucket was set to alone, or else the one that the
  -- note then knows
  abbrev pub Misses : Content T → T → Option (Entry T) → Option (Entry T) → Missed T → Type 0
  Misses vacant value old new (missed.Taken back first) = (back ≡ value) × (new ≡ Some first.now) × Keeps old new
  Misses (own e) value old new (missed.Taken back first) = (back ≡ value) × (first.now ≡ e) × (new ≡ old)
  Misses (named e) value old new (missed.Taken back first) = (back ≡ value) × (first.now ≡ e) × (new ≡ old)
  Misses c value old new (missed.NoMemory back) = (back ≡ value) × (new ≡ old)

  -- what a mark beside the known value of a word says
  abbrev pub content_of : Mark → Option (Entry T) → Content T
  content_of mark.Unmarked v = vacant
  content_of (mark.Own bits) None = vacant
  content_of (mark.Own bits) (Some e) = own e
  content_of (mark.Named bits) None = vacant
  content_of (mark.Named bits) (Some e) = named e

module _ {A T : Type 0} where
  -- a bucket is of this home and this allocator
  abbrev pub Lies : ℕ → A → BucketView A T → Type 0
  Lies h a b = (b.home ≡ h) × (b.from ≡ a)

  abbrev pub bucket_of : Mark → WordView A (Entry T) → BucketView A T
  bucket_of m w = record { from = w.from; home = w.home; id = w.id; content = content_of m w.value }

  -- a word that names an entry, and owns nothing
  abbrev pub word_naming : A → ℕ → Entry T → WordView A (Entry T)
  word_naming a h e = word_view a h false (Some e)

  -- a word of this home names an entry
  abbrev pub NamesEntry : ℕ → WordView A (Entry T) → Type 0
  NamesEntry h w = (e : Entry T) × (w ≡ word_naming w.from h e)

  -- the mark beside a word agrees with it: a vacant word owns what it will be set to
  abbrev pub IsMarked : Mark → WordView A (Entry T) → Type 0
  IsMarked mark.Unmarked w = (w.value ≡ None) × (w.owning ≡ true)
  IsMarked (mark.Own bits) w = (w.owning ≡ true) × (e : Entry T) × (w.value ≡ Some e) × (e.bits ≡ bits)
  IsMarked (mark.Named bits) w = (w.owning ≡ false) × (e : Entry T) × (w.value ≡ Some e) × (e.bits ≡ bits)
