-- How a line of `core` is spelled.
use Rattle.std.specs.Prelude.{◌≡◌, ℕ, Bool, true, false, List, [], ◌∷◌, ◌++◌, codes}
use Rattle.tool_streams.specs.Numbers.{SpellsNumber}
use Rattle.tool_commands.specs.Spelling.{HasNoSpace}
use Rattle.tool_commands.specs.declared.events.ScheduleLine.{ScheduleLine}
use Rattle.tool_commands.specs.declared.events.ScheduleLine.TheVariants.{Step, Buckets}
use Rattle.table_core.specs.declared.event.Event.{Event}
use Rattle.table_core.specs.declared.event.Event.TheVariants.{Insert, Lookup, Len, Walk, Share, Own, Free, Load, Read, Put, Add, Size, Check, Copy, Show}

-- a piece of a line: letters, or a number in one of its spellings
pub data Piece : Type 0 where
  Letters : (letters : List ℕ) → Piece
  Number : (n : ℕ) → Piece

-- yes or no, in these letters
abbrev pub said_by : List ℕ → List ℕ → Bool → Piece
said_by one other true = Letters one
said_by one other false = Letters other

-- what a closure answers
abbrev pub answer : Bool → Piece
answer = said_by (codes "y") (codes "n")

-- whether memory is granted
abbrev pub grant : Bool → Piece
grant = said_by (codes "ok") (codes "no")

-- the pieces of an event: its word, its numbers, and what it is answered
abbrev pub pieces_of : Event → List Piece
pieces_of (Insert c v h) = Letters (codes "insert") ∷ Number c ∷ Number v ∷ Number h ∷ []
pieces_of (Lookup c h) = Letters (codes "lookup") ∷ Number c ∷ Number h ∷ []
pieces_of (Len c) = Letters (codes "len") ∷ Number c ∷ []
pieces_of (Walk c) = Letters (codes "walk") ∷ Number c ∷ []
pieces_of (Share c) = Letters (codes "share") ∷ Number c ∷ []
pieces_of (Own c) = Letters (codes "own") ∷ Number c ∷ []
pieces_of (Free c) = Letters (codes "free") ∷ Number c ∷ []
pieces_of (Load c) = Letters (codes "load") ∷ Number c ∷ []
pieces_of (Read c y) = Letters (codes "read") ∷ Number c ∷ answer y ∷ []
pieces_of (Put c y m) = Letters (codes "put") ∷ Number c ∷ answer y ∷ grant m ∷ []
pieces_of (Add c) = Letters (codes "add") ∷ Number c ∷ []
pieces_of (Size c) = Letters (codes "size") ∷ Number c ∷ []
pieces_of (Check c m) = Letters (codes "check") ∷ Number c ∷ grant m ∷ []
pieces_of (Copy c k) = Letters (codes "copy") ∷ Number c ∷ Number k ∷ []
pieces_of (Show c) = Letters (codes "show") ∷ Number c ∷ []

-- this text is one spelling of the piece
abbrev pub SpellsPiece : List ℕ → Piece → Type 0
SpellsPiece text (Letters letters) = text ≡ letters
SpellsPiece text (Number n) = SpellsNumber text n

-- the text is cut at its first space
pub record IsCut (text before after : List ℕ) : Type 0 where
  pub parts : text ≡ before ++ codes " " ++ after
  pub first : HasNoSpace before

-- these pieces, with one space between
abbrev pub SpellsPieces : List ℕ → List Piece → Type 0
SpellsPieces text [] = ⊥
SpellsPieces text (p ∷ []) = SpellsPiece text p
SpellsPieces text (p ∷ q ∷ ps) = (before : List ℕ) × (after : List ℕ) × IsCut text before after
    × SpellsPiece before p × SpellsPieces after (q ∷ ps)

-- this word is the first piece, and the text behind it spells the others
abbrev pub SpellsAfter : List ℕ → List ℕ → List Piece → Type 0
SpellsAfter word text [] = ⊥
SpellsAfter word text (p ∷ ps) = SpellsPiece word p × SpellsPieces text ps

-- this word is the first piece, this number the second, and the text spells the others
abbrev pub SpellsBehind : List ℕ → ℕ → List ℕ → List Piece → Type 0
SpellsBehind word call text [] = ⊥
SpellsBehind word call text (p ∷ []) = ⊥
SpellsBehind word call text (p ∷ q ∷ ps) =
    SpellsPiece word p × (q ≡ Number call) × SpellsPieces text ps

-- this text spells the event
abbrev pub SpellsEvent : List ℕ → Event → Type 0
SpellsEvent text e = SpellsPieces text (pieces_of e)

-- this text is a line of `core`: an event, or the question for the buckets
abbrev pub SpellsScheduleLine : List ℕ → ScheduleLine → Type 0
SpellsScheduleLine text (Step e) = SpellsEvent text e
SpellsScheduleLine text Buckets = text ≡ codes "b"
