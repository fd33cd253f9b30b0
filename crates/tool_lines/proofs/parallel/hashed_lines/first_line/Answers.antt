use Rattle.std.proofs.Common.{◌≡◌, ℕ, List, ◌∷◌, Option, Some, None}
use Rattle.std.specs.Prelude.{IfSome}
use Rattle.std.specs.Borrow.{Bor}
use Rattle.tool_streams.specs.Lines.{CutsLine}
use Rattle.tool_lines.specs.Pieces.{lines_of}
use Rattle.tool_lines.proofs.Pieces.{line_in_front}
use Rattle.tool_lines.proofs.parallel.hashed_lines.first_line.Goals as goal

-- a line that is cut off a text is the first of its lines
first_is_cut : (text : List ℕ) (cut : Option (Bor (List ℕ) × Bor (List ℕ))) → IfSome cut (λ c. CutsLine text c.0.now c.1.now) → IfSome cut (λ c. lines_of text ≡ c.0.now ∷ lines_of c.1.now)
first_is_cut text None cuts = tt
first_is_cut text (Some c) cuts = line_in_front text c.0.now c.1.now cuts

pub returns-clause-line : goal.returns-clause-line
returns-clause-line c = first_is_cut c.args.text.now c.cut_line.result c.cut_line.ensures.cuts
