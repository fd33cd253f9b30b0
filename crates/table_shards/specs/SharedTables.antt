-- What a table that one owner held shows once threads share it.
use Rattle.std.specs.Prelude.{◌≡◌, ℕ, ◌++◌, List, [], ◌∷◌, Option, length}
use Rattle.std.specs.List.{sum_by, flat_map}
use Rattle.table_cell.specs.declared.bucket.Entry.{Entry}
use Rattle.table_generations.specs.Buckets.{values, values_of}

-- generation by generation, the current one last, what each bucket shows
abbrev pub Rows : Type 0 → Type 0
Rows T = List (List (Option (Entry T)))

module _ {T : Type 0} where
  -- the buckets of the last one of these generations; none where there is no generation
  abbrev pub last_row : Rows T → List (Option (Entry T))
  last_row [] = []
  last_row (row ∷ []) = row
  last_row (_ ∷ row ∷ rows) = last_row (row ∷ rows)

  -- the entries of these shards, shard by shard in the order of their buckets
  abbrev pub entries_in : List (Rows T) → List T
  entries_in shards = flat_map (λ rows. values_of (values (last_row rows))) shards

  -- how many buckets all generations of these shards have
  abbrev pub buckets_in : List (Rows T) → ℕ
  buckets_in shards = sum_by (λ rows. sum_by length rows) shards

module _ {T : Type 0} where
  -- the current one of these generations, the last, shows this in its buckets
  pub record IsCurrent (buckets : List (Option (Entry T)))
      (generations : List (List (Option (Entry T)))) : Type 0 where
    pub earlier : List (List (Option (Entry T)))
    pub last : generations ≡ earlier ++ buckets ∷ []
