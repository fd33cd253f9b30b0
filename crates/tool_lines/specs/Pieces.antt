-- The lines and the words of a text. A text is the list of its bytes.
use Rattle.std.specs.Prelude.{◌≡◌, ℕ, ◌++◌, Bool, true, false, List, [], ◌∷◌, Option, Some, None, if◌then◌else◌, ⊤}
use Rattle.std.specs.List.{filter}
use Rattle.std.specs.Char.{is_ascii_whitespace}
use Rattle.tool_streams.specs.Lines.{is_break}

-- a byte more at the front of the first part
abbrev pub begun : ℕ → List (List ℕ) → List (List ℕ)
begun byte [] = (byte ∷ []) ∷ []
begun byte (part ∷ parts) = (byte ∷ part) ∷ parts

-- the parts of a text between the bytes that pass the test: one more than there are such bytes
abbrev pub parts_between : (ℕ → Bool) → List ℕ → List (List ℕ)
parts_between test [] = [] ∷ []
parts_between test (byte ∷ text) =
    if test byte then [] ∷ parts_between test text else begun byte (parts_between test text)

abbrev pub is_filled : List ℕ → Bool
is_filled [] = false
is_filled (byte ∷ text) = true

-- the words of a text: what stands between bytes of ASCII whitespace, unless it is empty
abbrev pub words_of : List ℕ → List (List ℕ)
words_of text = filter is_filled (parts_between is_ascii_whitespace text)

-- the parts without the last one, if that is empty
abbrev pub without_empty_last : List (List ℕ) → List (List ℕ)
without_empty_last [] = []
without_empty_last (part ∷ []) = if is_filled part then part ∷ [] else []
without_empty_last (part ∷ next ∷ parts) = part ∷ without_empty_last (next ∷ parts)

-- the lines of a text: what stands between line breaks (0A); what stands behind the last one, if it is filled
abbrev pub lines_of : List ℕ → List (List ℕ)
lines_of text = without_empty_last (parts_between is_break text)

-- a text that is empty or begins with ASCII whitespace
abbrev pub BeginsBlank : List ℕ → Type 0
BeginsBlank [] = ⊤
BeginsBlank (byte ∷ text) = is_ascii_whitespace byte ≡ true

-- where the bytes are known: these are the lines of what was read
abbrev pub HasReadLines : Option (List ℕ) → Option (List ℕ) → List (List ℕ) → Type 0
HasReadLines None new lines = ⊤
HasReadLines (Some text) None lines = ⊥
HasReadLines (Some text) (Some rest) lines = lines_of text ≡ lines ++ lines_of rest
