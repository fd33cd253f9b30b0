-- What the words after the program's name ask for.
use Rattle.std.specs.Prelude.{◌≡◌, ◌⊎◌, ◌<◌, ◌≤◌, ℕ, true, List, [], ◌∷◌, ◌++◌, if◌then◌else◌, codes}
use Rattle.std.specs.List.{flat_map}
use Rattle.std.specs.Str.{bytes_eq}
use Rattle.tool_streams.specs.Numbers.{Writes}
use Rattle.tool_lines.specs.Pieces.{words_of, lines_of}
use Rattle.tool_lines.specs.Counts.{counted}
use Rattle.tool_lines.specs.Firsts.{deduped}
use Rattle.tool_lines.specs.declared.tool.Tool.{Tool}
use Rattle.tool_lines.specs.declared.tool.Tool.TheVariants.{Words, Dedup}
use Rattle.tool_lines.specs.declared.tool.Request.{Request}
use Rattle.tool_lines.specs.declared.tool.Request.TheVariants.{Help, Run}

-- what a tool is called
abbrev pub name_of : Tool → List ℕ
name_of Words = codes "words"
name_of Dedup = codes "dedup"

-- what a tool writes of these texts
abbrev pub written_by : Tool → List (List ℕ) → List ℕ
written_by Words texts = counted (flat_map words_of texts)
written_by Dedup texts = deduped (flat_map lines_of texts)

-- how the program is called
abbrev pub usage : List ℕ
usage = codes "usage: tool_text words [--threads N] [FILE..] | tool_text dedup [--threads N] [FILE..] | tool_text --help"

-- what the program says of itself: how it is called, and what each tool does
abbrev pub help : List ℕ
help =
    usage
    ++ (codes "\n\n  words  counts the words: for each different word its number, the word and its count\n"
    ++ (codes "  dedup  writes each different line once, in the order of first appearance\n\n"
    ++ (codes "Without a FILE, or where FILE is -, standard input is read. After -- each word is a FILE.\n"
    ++ codes "N threads, from 1 to 64, read in large pieces, and write what one thread writes.")))

-- one word, which asks what the program does
abbrev pub IsHelp : List (List ℕ) → Type 0
IsHelp [] = ⊥
IsHelp (word ∷ []) = (word ≡ codes "--help") ⊎ (word ≡ codes "-h")
IsHelp (word ∷ more ∷ words) = ⊥

-- the names of texts among the words after a tool's name: all of them, but for a first `--`
abbrev pub names_in : List (List ℕ) → List (List ℕ)
names_in [] = []
names_in (word ∷ words) = if bytes_eq word (codes "--") then words else word ∷ words

-- a number of threads, from 1 to 64, in decimal digits
abbrev pub IsThreadCount : List ℕ → ℕ → Type 0
IsThreadCount word threads = Writes 10 20 word threads × (0 < threads) × (threads ≤ 64)

-- the words begin with this number of threads, and these are the others
abbrev pub TakesCount : List (List ℕ) → ℕ → List (List ℕ) → Type 0
TakesCount [] threads rest = ⊥
TakesCount (word ∷ words) threads rest = IsThreadCount word threads × (rest ≡ words)

-- the first word is `--threads`, and these are the others
abbrev pub HasOption : List (List ℕ) → List (List ℕ) → Type 0
HasOption [] behind = ⊥
HasOption (word ∷ words) behind = (bytes_eq word (codes "--threads") ≡ true) × (behind ≡ words)

-- the words begin with `--threads` and this number, and these are the others; or they don't, and one thread is asked for
abbrev pub AsksThreads : List (List ℕ) → ℕ → List (List ℕ) → Type 0
AsksThreads words threads rest =
    ((behind : List (List ℕ)) × HasOption words behind × TakesCount behind threads rest)
    ⊎ ((behind : List (List ℕ)) → ¬ HasOption words behind) × (threads ≡ 1) × (rest ≡ words)

-- how many threads there are to be, and the names of the texts behind that
pub record AsksRun (words : List (List ℕ)) (threads : ℕ) (names : List (List ℕ)) : Type 0 where
  pub rest : List (List ℕ)
  pub threads_are : AsksThreads words threads rest
  pub names_are : names ≡ names_in rest

-- a tool's name, how many threads there are to be, and the names of the texts that are to be read
abbrev pub AsksTool : List (List ℕ) → Tool → ℕ → List (List ℕ) → Type 0
AsksTool [] tool threads names = ⊥
AsksTool (word ∷ words) tool threads names =
    (word ≡ name_of tool) × ¬ IsHelp words × AsksRun words threads names

-- `--help` or `-h`, alone or after a tool's name
abbrev pub AsksHelp : List (List ℕ) → Type 0
AsksHelp [] = ⊥
AsksHelp (word ∷ words) = IsHelp (word ∷ words) ⊎ ((tool : Tool) × (word ≡ name_of tool) × IsHelp words)

-- the words ask for this
abbrev pub Asks : {X : Type 0} → (List X → List (List ℕ)) → List (List ℕ) → Request X → Type 0
Asks texts words Help = AsksHelp words
Asks texts words (Run tool threads names) = AsksTool words tool threads (texts names.now)
