-- The next generation of a shared table while it is made.
use Rattle.std.specs.Prelude.{◌≡◌, ℕ, ◌+◌, ◌<◌, ◌≤◌, Bool, true, false, List, [], Option, Some, None, IfSome, length}
use Rattle.std.specs.Borrow.{Bor}
use Rattle.std.specs.Int.{IsPowerOfTwo}
use Rattle.table_cell.specs.Words.{WordView}
use Rattle.table_cell.specs.declared.bucket.Entry.{Entry}
use Rattle.table_generations.specs.Buckets.{Content, named, shown, content_at}
use Rattle.table_generations.specs.Generations.{GenerationView, AreOfOneHome}
use Rattle.table_generations.specs.Growth.{PutsName}
use Rattle.table_generations.specs.Windows.{NoneShown}
use Rattle.table_shared.specs.Lineages.{IsOpen, WordsView}

-- a growth: the home of its blocks, what the buckets of the generation before were set to alone, how
-- many of them are passed, the buckets of the generation that is made, the word through which that is published, and what is known of
-- the words for later generations
pub record GrowthView (T : Type 0) : Type 0 where
  pub home : ℕ
  pub before : List (Content T)
  pub passed : ℕ
  pub built : List (Content T)
  pub word : ℕ
  pub words : WordsView

module _ {T : Type 0} where
  -- a bucket names the entry
  abbrev pub Names : List (Content T) → Entry T → Type 0
  Names ps e = (j : ℕ) × (content_at ps j ≡ named e)

  -- each entry that one of the first i buckets was set to alone is named
  abbrev pub AreNamed : List (Content T) → ℕ → List (Content T) → Type 0
  AreNamed before i built = (k : ℕ) (e : Entry T) → k < i → shown (content_at before k) ≡ Some e → Names built e

  -- each bucket of the generation before is passed
  abbrev pub PassedAll : GrowthView T → Type 0
  PassedAll g = length g.before ≤ g.passed

module _ {T U : Type 0} (target : T → U) (rehash : U → ℕ → Type 0) where
  -- bucket i is passed, none that is passed before it was set alone, and e is named in the first
  -- empty bucket for a hash that rehash may answer for it. If bucket i was set alone, e is its entry;
  -- otherwise this doesn't say which entry e is
  pub record CopiesAt (old new : GrowthView T) (i : ℕ) (e : Entry T) (hash : ℕ) : Type 0 where
    pub on : old.passed ≤ i
    pub within : i < length old.before
    pub passed : new.passed ≡ i + 1
    pub skipped : NoneShown old.before old.passed i
    pub alone : IfSome (shown (content_at old.before i)) (λ x. x ≡ e)
    pub asked : rehash (target e.value) hash
    pub put : PutsName target old.built new.built hash (named e)

  -- one more bucket is passed and one entry named; or nothing is named, all buckets are passed, and
  -- none that was left was set alone
  abbrev pub CopiesNext : GrowthView T → Bool → GrowthView T → Type 0
  CopiesNext old true new = (i : ℕ) × (e : Entry T) × (hash : ℕ) × CopiesAt old new i e hash
  CopiesNext old false new = (new.built ≡ old.built) × PassedAll new × NoneShown old.before old.passed (length old.before)

module _ {A T : Type 0} where
  -- what the buckets of the generation before were set to alone
  abbrev pub buckets_before : Option (Bor (GenerationView A T)) → List (Content T)
  buckets_before None = []
  buckets_before (Some from) = from.now.contents

  -- a growth as its callers see it
  abbrev pub growth_of : ℕ → Option (Bor (GenerationView A T)) → ℕ → GenerationView A T → ℕ → WordsView → GrowthView T
  growth_of home from passed built word words =
      record { home = home; before = buckets_before from; passed = passed; built = built.contents; word = word; words = words }

  -- the generation before, if there is one, is of the same home and allocator, and has fewer buckets
  -- than the one that is made
  abbrev pub IsBehind : Option (Bor (GenerationView A T)) → GenerationView A T → Type 0
  IsBehind None built = Unit {0}
  IsBehind (Some from) built = AreOfOneHome built from.now × (length from.now.contents < length built.contents)

  -- a generation of this home that is made after the one before, with no entry copied yet
  pub record IsFresh (home : ℕ) (from : Option (Bor (GenerationView A T))) (built : GenerationView A T) : Type 0 where
    pub home_is : built.home ≡ home
    pub power : IsPowerOfTwo (length built.contents)
    pub behind : IsBehind from built
    pub empty : built.size ≡ 0

  -- a generation that is made: it has a bucket, at most so many entries are copied as buckets were passed, those that
  -- the passed buckets were set to alone are named, and its word and its block are of one allocator
  pub record IsUnderWay {X : Type 0} (home : ℕ) (from : Option (Bor (GenerationView A T))) (copied : ℕ)
      (built : GenerationView A T) (alloc : A) (word : WordView A X) (block : A) : Type 0 where
    pub home_is : built.home ≡ home
    pub power : IsPowerOfTwo (length built.contents)
    pub behind : IsBehind from built
    pub few : built.size ≤ copied
    pub all_named : AreNamed (buckets_before from) copied built.contents
    pub is_open : IsOpen home alloc word
    pub block_is : block ≡ alloc
