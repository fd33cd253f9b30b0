-- How a line of the program's input is spelled.
use Rattle.std.specs.Prelude.{◌≡◌, ◌≢◌, ℕ, List, ◌++◌, codes, All}
use Rattle.tool_streams.specs.Numbers.{SpellsNumber}
use Rattle.tool_commands.specs.declared.spelling.Line.{Line}
use Rattle.tool_commands.specs.declared.spelling.Line.TheVariants.{Insert, Lookup, Length, Walk, Capacity, Buckets}

-- no byte is a space
abbrev pub HasNoSpace : List ℕ → Type 0
HasNoSpace text = All (λ b. b ≢ 32) text

-- two numbers with one space between them
pub record SpellsPair (text : List ℕ) (first second : ℕ) : Type 0 where
  pub before : List ℕ
  pub after : List ℕ
  pub parts : text ≡ before ++ codes " " ++ after
  pub first_is : SpellsNumber before first
  pub second_is : SpellsNumber after second

-- a word, one space and two numbers
abbrev pub SpellsCall : List ℕ → List ℕ → ℕ → ℕ → Type 0
SpellsCall word text hash number =
    (rest : List ℕ) × (text ≡ word ++ codes " " ++ rest) × SpellsPair rest hash number

-- this text is a line of `calls`
abbrev pub SpellsLine : List ℕ → Line → Type 0
SpellsLine text (Insert hash number) = SpellsCall (codes "i") text hash number
SpellsLine text (Lookup hash number) = SpellsCall (codes "l") text hash number
SpellsLine text Length = text ≡ codes "n"
SpellsLine text Walk = text ≡ codes "w"
SpellsLine text Capacity = text ≡ codes "c"
SpellsLine text Buckets = text ≡ codes "b"
