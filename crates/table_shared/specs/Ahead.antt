-- Entries that are read ahead of their copies, and copies in a row.
use Rattle.std.specs.Prelude.{◌≡◌, ℕ, zero, suc, ◌≤◌, true, Option, Some, None, IfSome}
use Rattle.table_cell.specs.Contents.{word_naming}
use Rattle.table_cell.specs.declared.bucket.Entry.{Entry}
use Rattle.table_generations.specs.Buckets.{shown, content_at}
use Rattle.table_generations.specs.Generations.{GenerationView}
use Rattle.table_generations.specs.Windows.{NoneShown}
use Rattle.table_shared.specs.Growths.{GrowthView, CopiesNext}
use Rattle.table_shared.specs.declared.growth.ahead.Ahead.{Ahead}

module _ {A T U : Type 0} (target : T → U) (rehash : U → ℕ → Type 0) (g : GenerationView A T) where
  -- an entry was read of bucket i, which a word names, beside a hash that rehash may answer for it. If the bucket was set
  -- alone, the entry is its own
  abbrev pub IsAhead : ℕ → Ahead T A → Type 0
  IsAhead i read = (e : Entry T) × (read.word ≡ word_naming g.from g.home e)
      × IfSome (shown (content_at g.contents i)) (λ x. x ≡ e) × rehash (target e.value) read.hash

  -- bucket i was read: nothing was there, and it wasn't set alone; or an entry
  abbrev pub IsRead : ℕ → Option (Ahead T A) → Type 0
  IsRead i None = shown (content_at g.contents i) ≡ None
  IsRead i (Some read) = IsAhead i read

  -- what a place of a window holds was read of bucket i
  abbrev pub Holds : ℕ → Option (Ahead T A) → Type 0
  Holds i None = ⊥
  Holds i (Some read) = IsAhead i read

-- buckets are passed that weren't set alone, and nothing is named
pub record PassesOver {T : Type 0} (old new : GrowthView T) : Type 0 where
  pub home_is : new.home ≡ old.home
  pub before_is : new.before ≡ old.before
  pub built_is : new.built ≡ old.built
  pub on : old.passed ≤ new.passed
  pub skipped : NoneShown old.before old.passed new.passed

module _ {T U : Type 0} (target : T → U) (rehash : U → ℕ → Type 0) where
  -- so many entries are copied, one after another
  abbrev pub Copies : ℕ → GrowthView T → GrowthView T → Type 0
  Copies zero old new = new ≡ old
  Copies (suc n) old new = (mid : GrowthView T) × Copies n old mid × (new.home ≡ mid.home)
      × (new.before ≡ mid.before) × CopiesNext target rehash mid true new

  -- entries are copied one after another, and no bucket that was set alone is left out of those that
  -- are passed
  abbrev pub CopiesOn : GrowthView T → GrowthView T → Type 0
  CopiesOn old new = (n : ℕ) × (mid : GrowthView T) × Copies n old mid × PassesOver mid new
