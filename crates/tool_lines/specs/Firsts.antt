-- Each different text of a list once, in the order of first appearance.
use Rattle.std.specs.Prelude.{ℕ, ◌++◌, List, [], ◌∷◌, not, codes}
use Rattle.std.specs.List.{filter, flat_map}
use Rattle.std.specs.Str.{bytes_eq}

-- the texts that are not this one
abbrev pub without : List ℕ → List (List ℕ) → List (List ℕ)
without text texts = filter (λ other. not (bytes_eq text other)) texts

-- each different text once: the first one, and those of the others that are not equal to it
abbrev pub firsts : List (List ℕ) → List (List ℕ)
firsts [] = []
firsts (text ∷ texts) = text ∷ without text (firsts texts)

-- a line with its line break
abbrev pub with_break : List ℕ → List ℕ
with_break line = line ++ codes "\n"

-- what is written of these lines: each different one once, in the order of first appearance
abbrev pub deduped : List (List ℕ) → List ℕ
deduped lines = flat_map with_break (firsts lines)
