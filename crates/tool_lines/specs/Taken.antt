-- Lines that are taken, one after another, and what is written of them.
use Rattle.std.specs.Prelude.{ℕ, ◌++◌, List, Option}
use Rattle.std.specs.Io.KnownBytes.{Appends}
use Rattle.tool_lines.specs.Pieces.{lines_of}
use Rattle.tool_lines.specs.Texts.{ArePartsOf}

-- what has taken lines, and what is written of lines
module _ {X : Type 0} (has_taken : X → List (List ℕ) → Type 0) (written : List (List ℕ) → List ℕ) where
  -- whatever lines the old one has taken, and whatever was written before: what is written of them
  -- becomes what is written of them and these, and the new one has taken all of them
  abbrev pub TakesLines : X → List (List ℕ) → X → Option (List ℕ) → Option (List ℕ) → Type 0
  TakesLines old more new before after =
      (lines : List (List ℕ)) (start : Option (List ℕ)) → has_taken old lines
      → Appends start before (written lines)
      → has_taken new (lines ++ more) × Appends start after (written (lines ++ more))

  -- the same of the lines of a text, where its bytes are known
  abbrev pub TakesText : Option (List ℕ) → X → X → Option (List ℕ) → Option (List ℕ) → Type 0
  TakesText known old new before after =
      (more : List (List ℕ)) × ArePartsOf lines_of known more × TakesLines old more new before after
