-- What a walk over a table gives, and what a table gives when it is taken apart.
use Rattle.std.specs.Prelude.{ℕ, ◌^◌, ◌<◌, List, drop, length}
use Rattle.table_held.specs.Shown as shown
use Rattle.table_generations.specs.Buckets.{Content, values_of, shown_entries}
use Rattle.table_held.specs.Table.{HeldTable, held}

module _ {T : Type 0} where
  -- the entries that the buckets show from this one on, in their order
  abbrev pub shown_from : List (Content T) → ℕ → List T
  shown_from ps index = values_of (shown_entries (drop index ps))

  -- each list that the table stands for answers a walk with these entries
  abbrev pub WalksAsList : HeldTable T → List T → Type 0
  WalksAsList t es = shown.WalksAsList held t es

  -- these are the entries of the table, each once, in some order, and fewer than 2^64
  pub record GivesEntries (t : HeldTable T) (es : List T) : Type 0 where
    pub gives : shown.GivesEntries held t es
    pub fits : length es < 2 ^ 64
