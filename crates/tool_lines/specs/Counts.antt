-- How often words stand in a list, and the lines that say so.
use Rattle.std.specs.Prelude.{◌≡◌, ℕ, ◌+◌, ◌++◌, List, [], ◌∷◌, map, count_by, codes, decimal}
use Rattle.std.specs.Str.{bytes_eq}
use Rattle.tool_lines.specs.Firsts.{firsts}

-- how often a word stands among these
abbrev pub occurrences : List (List ℕ) → List ℕ → ℕ
occurrences words word = count_by (bytes_eq word) words

-- the different words in the order of first appearance, and how often each stands
pub record Counts (words : List (List ℕ)) (different : List (List ℕ)) (counts : List ℕ) : Type 0 where
  pub in_order : different ≡ firsts words
  pub counted : counts ≡ map (occurrences words) (firsts words)

-- the line of a word: its number, the word and its count
abbrev pub word_line : ℕ → List ℕ → ℕ → List ℕ
word_line number word count =
    decimal number ++ (codes " " ++ (word ++ (codes " " ++ (decimal count ++ codes "\n"))))

-- the lines of words whose numbers follow one another, from this one on
abbrev pub word_lines : ℕ → List (List ℕ) → List ℕ → List ℕ
word_lines number [] counts = []
word_lines number (word ∷ words) [] = []
word_lines number (word ∷ words) (count ∷ counts) =
    word_line number word count ++ word_lines (number + 1) words counts

-- what is written of these words: a line for each different one, in the order of first appearance
abbrev pub counted : List (List ℕ) → List ℕ
counted words = word_lines 1 (firsts words) (map (occurrences words) (firsts words))
