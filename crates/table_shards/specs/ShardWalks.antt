-- What walks over shards give: the entries of one shard, and then those of the next.
use Rattle.std.specs.Prelude.{◌≡◌, ◌++◌, List, [], ◌∷◌, Option, Some, None}
use Rattle.std.specs.List.{flat_map}
use Rattle.std.specs.List.Sorted.{IsPermutation}
use Rattle.table_held.specs.Table as table
use Rattle.table_held.specs.Table.{HeldTable}

module _ {T : Type 0} where
  -- what is left where one shard is walked, and then others: the rest of that one, and all of those
  abbrev pub left_of : List T → List (HeldTable T) → List T
  left_of walk later = walk ++ flat_map table.entries later

  -- one of the values that were left was handed out, and the others are left, in some order; or
  -- none was left, and none is
  abbrev pub HandsOutOne : List T → Option T → List T → Type 0
  HandsOutOne before (Some v) after = IsPermutation before (v ∷ after)
  HandsOutOne before None after = (before ≡ []) × (after ≡ [])
