-- What the generations of a table show before it is shared, and after.
use Rattle.std.proofs.Common.{◌≡◌, List, [], ◌∷◌, Option, map, refl, ap}
use Rattle.std.proofs.lemmas.List.{map_push}
use Rattle.table_cell.specs.declared.bucket.Entry.{Entry}
use Rattle.table_generations.specs.Buckets.{shown_all}
use Rattle.table_generations.specs.Generations.{GenerationView}
use Rattle.table_held.specs.Table.{contents_in, shown_rows}
use Rattle.table_shared.specs.Lineages.{shown_in}
use Rattle.table_shards.specs.SharedTables.{IsCurrent}

module _ {A T : Type 0} where
  -- what the generations of a table show it shows once it is shared
  pub shown_as_shared : (gs : List (GenerationView A T)) (current : GenerationView A T) → shown_in gs current ≡ shown_rows (contents_in gs) current.contents
  shown_as_shared [] current = refl
  shown_as_shared (g ∷ gs) current = ap (λ rows. shown_all g.contents ∷ rows) (shown_as_shared gs current)

  -- the last of them is the current one
  pub current_as_shared : (gs : List (GenerationView A T)) (current : GenerationView A T) (buckets : List (Option (Entry T))) → shown_all current.contents ≡ buckets → IsCurrent buckets (shown_in gs current)
  current_as_shared gs current buckets shows = record { earlier = map (λ g. shown_all g.contents) gs; last = rw (← shows) (map_push (λ g. shown_all g.contents) gs current) }
