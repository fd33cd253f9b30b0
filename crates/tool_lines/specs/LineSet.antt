-- The lines that a table holds.
use Rattle.std.specs.Prelude.{◌≡◌, ◌↔◌, ℕ, ◌++◌, Bool, List, [], ◌∷◌, map, Contains, IsTrue}
use Rattle.table_generations.specs.declared.atomic_value.InPlace.{InPlace}
use Rattle.table_held.specs.Table.{HeldTable, Stands, IsLawful}
use Rattle.tool_lines.specs.Hashes.{same_by_bytes, hash_by_bytes}
use Rattle.tool_lines.specs.Firsts.{firsts}

module _ {V : Type 0} (bytes : V → List ℕ) where
  -- the table is lawful for lines
  abbrev pub IsLineTable : HeldTable (InPlace V) → Type 0
  IsLineTable t = IsLawful (λ e. e.0) (same_by_bytes bytes) (hash_by_bytes bytes) t

  -- the table stands for the different ones of these lines
  abbrev pub HoldsLines : HeldTable (InPlace V) → List (List ℕ) → Type 0
  HoldsLines t lines = (M : List (InPlace V)) × Stands t M × (map (λ e. bytes e.0) M ≡ firsts lines)

  -- on all lines that the old table holds, the answer is whether the line is one of them, and the new
  -- table holds them and the line
  abbrev pub SeesLine : HeldTable (InPlace V) → List ℕ → Bool → HeldTable (InPlace V) → Type 0
  SeesLine old line seen new = (lines : List (List ℕ)) → HoldsLines old lines
      → (IsTrue seen ↔ Contains lines line) × HoldsLines new (lines ++ line ∷ [])

  -- on all lines that the old table holds, the line is none of them, and the new table holds the same
  abbrev pub RefusesLine : HeldTable (InPlace V) → List ℕ → HeldTable (InPlace V) → Type 0
  RefusesLine old line new = (lines : List (List ℕ)) → HoldsLines old lines
      → ¬ Contains lines line × HoldsLines new lines
