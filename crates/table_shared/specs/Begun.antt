-- What a look at the size of a shared table finds.
use Rattle.std.specs.Prelude.{◌≡◌, ℕ, ◌+◌, ◌⊎◌, List, [], IsSomeAnd, length}
use Rattle.table_generations.specs.Buckets.{Content}
use Rattle.table_shared.specs.Growths.{GrowthView}
use Rattle.table_shared.specs.Lineages.{IsNumber, IsWordFor, LastIsBare}
use Rattle.table_shared.specs.Tables.{SharedTable}
use Rattle.table_shared.specs.declared.growth.begin.Wanted.{Wanted}
use Rattle.table_shared.specs.declared.growth.begin.Wanted.TheVariants as wanted

module _ {T : Type 0} where
  -- a growth of this table publishes through the table's word for the generation of this number
  pub record IsThrough (t : SharedTable T) (number : ℕ) (g : GrowthView T) : Type 0 where
    pub of_table : g.words.of ≡ t.later
    pub is_word : IsSomeAnd g.words.names (λ names. IsWordFor t.shared number names g.word)

  -- the generation after the one with these buckets has this number: the first has number 0
  abbrev pub HasNext : SharedTable T → List (Content T) → ℕ → Type 0
  HasNext t before number = (LastIsBare t.shared × (before ≡ []) × (number ≡ 0))
      ⊎ ((n : ℕ) × IsNumber t.first_capacity t.shared (length before) n × (number ≡ n + 1))

  -- a growth of this table copies a generation of it, none if it makes the first, and publishes through the word for the one after it
  pub record IsOf (t : SharedTable T) (g : GrowthView T) : Type 0 where
    pub home_is : g.home ≡ t.home
    pub number : ℕ
    pub next : HasNext t g.before number
    pub through : IsThrough t number g

-- what was begun is of this table
abbrev pub Begins : {T V U : Type 0} → SharedTable T → Wanted T V U → Type 0
Begins t wanted.Unwanted = Unit {0}
Begins t wanted.Failed = Unit {0}
Begins t (wanted.Begun growth) = IsOf t growth
