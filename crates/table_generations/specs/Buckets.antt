-- What the buckets of a generation hold, and which entry each of them shows.
use Rattle.std.specs.Prelude.{ℕ, List, [], ◌∷◌, Option, Some, None, map, slice_index_or}
pub use Rattle.table_cell.specs.Contents.{Content, vacant, own, named, shown, owned}
pub use Rattle.table_cell.specs.Rows.{content_at}
use Rattle.table_cell.specs.declared.bucket.Entry.{Entry}

module _ {X : Type 0} where
  -- what is there of a list of places, in their order
  abbrev pub values : List (Option X) → List X
  values [] = []
  values (None ∷ ps) = values ps
  values (Some v ∷ ps) = v ∷ values ps

  -- what place i holds; nothing lies past the end
  abbrev pub value_at : List (Option X) → ℕ → Option X
  value_at ps i = slice_index_or ps i None

module _ {T : Type 0} where
  -- the values of a list of entries
  abbrev pub values_of : List (Entry T) → List T
  values_of es = map (λ e. e.value) es

  -- the values that buckets own, in their order
  abbrev pub owned_values : List (Content T) → List T
  owned_values ps = values_of (values (map owned ps))

  -- what each bucket shows: its own entry, or the one that it names
  abbrev pub shown_all : List (Content T) → List (Option (Entry T))
  shown_all ps = map shown ps

  -- the entries that buckets show, in their order
  abbrev pub shown_entries : List (Content T) → List (Entry T)
  shown_entries ps = values (shown_all ps)
