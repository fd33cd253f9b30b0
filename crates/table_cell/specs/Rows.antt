-- Buckets in a row: their marks apart from their words.
use Rattle.std.specs.Prelude.{◌≡◌, ℕ, ⊤, List, [], ◌∷◌, Option, Some, None, All, map, slice_index_or}
use Rattle.table_cell.specs.Words.{WordView}
use Rattle.table_cell.specs.Contents.{BucketView, Content, vacant, IsMarked, content_of, bucket_of}
use Rattle.table_cell.specs.declared.bucket.Entry.{Entry}
use Rattle.table_cell.specs.declared.bucket.Mark.{Mark}

-- buckets of one allocator and one home, and the names by which notes speak of what they are set to through `&`
pub record RowView (A T : Type 0) : Type 0 where
  pub from : A
  pub home : ℕ
  pub ids : List ℕ
  pub contents : List (Content T)

module _ {T : Type 0} where
  -- what bucket i holds; past the end nothing is held
  abbrev pub content_at : List (Content T) → ℕ → Content T
  content_at ps i = slice_index_or ps i vacant

module _ {A T : Type 0} where
  -- what the marks beside the known values of the words say
  abbrev pub contents_of : List Mark → List (WordView A (Entry T)) → List (Content T)
  contents_of [] ws = []
  contents_of (m ∷ ms) [] = []
  contents_of (m ∷ ms) (w ∷ ws) = content_of m w.value ∷ contents_of ms ws

  -- the buckets that marks and words are
  abbrev pub buckets_of : List Mark → List (WordView A (Entry T)) → List (BucketView A T)
  buckets_of [] ws = []
  buckets_of (m ∷ ms) [] = []
  buckets_of (m ∷ ms) (w ∷ ws) = bucket_of m w ∷ buckets_of ms ws

  -- there are as many marks as words, and each mark agrees with its word
  abbrev pub AreMarked : List Mark → List (WordView A (Entry T)) → Type 0
  AreMarked [] [] = ⊤
  AreMarked [] (w ∷ ws) = ⊥
  AreMarked (m ∷ ms) [] = ⊥
  AreMarked (m ∷ ms) (w ∷ ws) = IsMarked m w × AreMarked ms ws

  -- a word is of this home and this allocator
  abbrev pub WordLies : ℕ → A → WordView A (Entry T) → Type 0
  WordLies home from w = (w.home ≡ home) × (w.from ≡ from)

  abbrev pub row_of : A → ℕ → List Mark → List (WordView A (Entry T)) → RowView A T
  row_of from home ms ws =
      record { from = from; home = home; ids = map (λ w. w.id) ws; contents = contents_of ms ws }

  -- the bucket at this index
  abbrev pub bucket_at : RowView A T → ℕ → BucketView A T
  bucket_at r i =
      record { from = r.from; home = r.home; id = slice_index_or r.ids i 0; content = content_at r.contents i }

  -- each mark agrees with its word, and each word is of this home and this allocator
  pub record IsRow (from : A) (home : ℕ) (ms : List Mark) (ws : List (WordView A (Entry T))) : Type 0 where
    pub marked : AreMarked ms ws
    pub lies : All (WordLies home from) ws

  -- two rows of one home and one allocator
  abbrev pub AreOfOneRow : RowView A T → RowView A T → Type 0
  AreOfOneRow a b = (a.home ≡ b.home) × (a.from ≡ b.from)

  -- the first bucket of a row is taken off it, if there is one
  abbrev pub TakesFirst : RowView A T → Option (BucketView A T) → RowView A T → Type 0
  TakesFirst old None new = (old.contents ≡ []) × (new ≡ old)
  TakesFirst old (Some b) new =
      (old.contents ≡ b.content ∷ new.contents)
      × (old.ids ≡ b.id ∷ new.ids) × (b.home ≡ old.home) × (b.from ≡ old.from)
      × AreOfOneRow new old
