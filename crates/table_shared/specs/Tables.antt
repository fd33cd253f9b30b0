-- A table that threads share, as its callers see it.
use Rattle.std.specs.Prelude.{ℕ, List, Option}
use Rattle.table_cell.specs.declared.bucket.Entry.{Entry}
use Rattle.table_shared.specs.Lineages.{LineageView}

-- a shared table: its first capacity, the home of its blocks, the name by which notes say whether a generation was shown since it was
-- shared, what the buckets of its generations showed when it was shared, and the name of the word that holds the words for later ones
pub record SharedTable (T : Type 0) : Type 0 where
  pub first_capacity : ℕ
  pub home : ℕ
  pub latest : ℕ
  pub shared : List (List (Option (Entry T)))
  pub later : ℕ

abbrev pub table_of : {A T : Type 0} → ℕ → LineageView A T → ℕ → SharedTable T
table_of first l latest = record { first_capacity = first; home = l.home; latest = latest; shared = l.shared; later = l.later }
