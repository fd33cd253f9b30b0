-- How a reader's bytes are cut into lines. A text is the list of its bytes.
use Rattle.std.specs.Prelude.{◌≡◌, ◌⊎◌, ◌==◌, ℕ, ◌<◌, ◌++◌, Bool, true, false, List, [], ◌∷◌, Option, Some, None, if◌then◌else◌, length, slice_index_or, ⊤}
use Rattle.std.specs.Io.Buffered.{reader_remaining}
use Rattle.tool_streams.specs.declared.lines.Lines.{Lines}

abbrev pub is_break : ℕ → Bool
is_break byte = byte == 10

-- each byte of these answers the test so
abbrev pub AllAnswer : (ℕ → Bool) → Bool → List ℕ → Type 0
AllAnswer test answer bytes =
    (k d : ℕ) → k < length bytes → test (slice_index_or bytes k d) ≡ answer

-- the text begins with a line, and another text follows
abbrev pub CutsLine : List ℕ → List ℕ → List ℕ → Type 0
CutsLine text line rest = AllAnswer is_break false line ×
    ((text ≡ line ++ 10 ∷ rest) ⊎ ((text ≡ line) × (0 < length line) × (rest ≡ [])))

-- where the bytes that a reader has left are known: a line was read from their front, or none is left
abbrev pub ReadsLine : Option (List ℕ) → Option (List ℕ) → List ℕ → Bool → Type 0
ReadsLine None new line found = ⊤
ReadsLine (Some text) None line found = ⊥
ReadsLine (Some text) (Some rest) line true = CutsLine text line rest
ReadsLine (Some text) (Some rest) line false = text ≡ []

-- the bytes that are left for lines, where the reader's are known: none, once the reader's end was seen
abbrev pub lines_left : {R A : Type 0} → (R → Option (List ℕ)) → Lines R A → Option (List ℕ)
lines_left remaining lines = if lines.at_end then Some [] else reader_remaining remaining lines.reader
