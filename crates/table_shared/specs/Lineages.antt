-- The generations of a shared table in their order.
use Rattle.std.specs.Prelude.{◌≡◌, ℕ, ◌+◌, ◌*◌, ◌^◌, ◌<◌, ◌≤◌, ◌++◌, true, List, [], ◌∷◌, All, HoldsAt, Option, None, IsSomeAnd, length, map}
use Rattle.table_cell.specs.Words.{WordView}
use Rattle.table_cell.specs.declared.bucket.Entry.{Entry}
use Rattle.table_generations.specs.Buckets.{shown_all}
use Rattle.table_generations.specs.Generations.{GenerationView}

module _ {A X : Type 0} where
  -- a word of this home and this allocator that is set through `&` alone
  pub record IsOpen (home : ℕ) (from : A) (w : WordView A X) : Type 0 where
    pub home_is : w.home ≡ home
    pub from_is : w.from ≡ from
    pub owning : w.owning ≡ true
    pub unset : w.value ≡ None

  -- each word is open, and there is room for as many things as there are words
  pub record AreRoomy {Y : Type 0} (home : ℕ) (from : A) (words : List (WordView A X)) (taken : List Y)
      (room : ℕ) : Type 0 where
    pub all_open : All (IsOpen home from) words
    pub none_taken : taken ≡ []
    pub roomy : length words ≤ room

-- what a note knows of the words for later generations: the name of the word that holds them, and the name of each
pub record WordsView : Type 0 where
  pub of : ℕ
  pub names : Option (List ℕ)

abbrev pub names_of : {A X : Type 0} → List (WordView A X) → List ℕ
names_of ws = map (λ w. w.id) ws

abbrev pub words_of : ℕ → Option (List ℕ) → WordsView
words_of of names = record { of = of; names = names }

-- the generations of a shared table: the allocator and the home of their blocks, what the
-- buckets of each showed that it had when it was shared, the last of them at the end, and the name of the word that holds the words
-- for later ones
pub record LineageView (A T : Type 0) : Type 0 where
  pub from : A
  pub home : ℕ
  pub shared : List (List (Option (Entry T)))
  pub later : ℕ

-- of generations that show this, the last has no bucket
abbrev pub LastIsBare : {T : Type 0} → List (List (Option (Entry T))) → Type 0
LastIsBare {T} shown = (earlier : List (List (Option (Entry T)))) × (shown ≡ earlier ++ [] ∷ [])

-- where the generations of a table showed this when it was shared, a generation of n buckets has this number: the first is 0, and
-- each has twice the buckets of the one before. Nothing is said of one with fewer buckets than the last of those, or than the
-- first capacity where that has none
pub record IsNumber {T : Type 0} (first : ℕ) (shown : List (List (Option (Entry T)))) (n number : ℕ) : Type 0 where
  pub earlier : List (List (Option (Entry T)))
  pub last : List (Option (Entry T))
  pub are : shown ≡ earlier ++ last ∷ []
  -- where the last of them has no bucket, the first capacity was doubled so often
  pub from_first : length last ≡ 0 → first ≤ n → n ≡ first * 2 ^ number
  -- otherwise its buckets were doubled k times, and as many generations as stood before it come to that
  pub from_last : 0 < length last → length last ≤ n
      → (k : ℕ) × (n ≡ length last * 2 ^ k) × (number ≡ length earlier + k)

-- where the generations of a table showed this when it was shared, the word for the generation of this number is the one at this
-- place of those for later ones
pub record HasPlace {T : Type 0} (shown : List (List (Option (Entry T)))) (number place : ℕ) : Type 0 where
  pub earlier : List (List (Option (Entry T)))
  pub last : List (Option (Entry T))
  pub are : shown ≡ earlier ++ last ∷ []
  -- where the last of them has no bucket, the first later one has number 0
  pub from_first : length last ≡ 0 → number ≡ place
  -- otherwise it has the number after that of the last
  pub from_last : 0 < length last → number ≡ length earlier + 1 + place

-- the word of this name is the one for the generation of this number, where the words for later ones have these names
pub record IsWordFor {T : Type 0} (shown : List (List (Option (Entry T)))) (number : ℕ) (names : List ℕ) (word : ℕ) : Type 0 where
  pub place : ℕ
  pub has_place : HasPlace shown number place
  pub within : place < length names
  pub there : HoldsAt (λ n. n ≡ word) names place

module _ {A T : Type 0} where
  -- generation by generation, what each bucket shows
  abbrev pub shown_in : List (GenerationView A T) → GenerationView A T → List (List (Option (Entry T)))
  shown_in earlier base = map (λ g. shown_all g.contents) (earlier ++ base ∷ [])

  -- generations of one home
  abbrev pub AreOfHome : ℕ → List (GenerationView A T) → GenerationView A T → Type 0
  AreOfHome home earlier base = All (λ g. g.home ≡ home) earlier × (base.home ≡ home)

  abbrev pub lineage_of : A → List (GenerationView A T) → GenerationView A T → ℕ → LineageView A T
  lineage_of from earlier base later =
      record { from = from; home = base.home; shared = shown_in earlier base; later = later }

  -- the generations and the word for later ones are of one home, and the word is open
  pub record IsLineage {X : Type 0} (from : A) (earlier : List (GenerationView A T))
      (base : GenerationView A T) (later : WordView A X) : Type 0 where
    pub of_home : All (λ g. g.home ≡ base.home) earlier
    pub is_open : IsOpen base.home from later
