-- The lines that answer numbers.
use Rattle.std.specs.Prelude.{ℕ, ◌++◌, List, codes, decimal}
use Rattle.std.specs.List.{flat_map}
use Rattle.tool_lines.specs.Fibonacci.{fibonacci_word}

-- the line that answers a number: its Fibonacci number
abbrev pub reply : ℕ → List ℕ
reply number = decimal (fibonacci_word number) ++ codes "\n"

-- the lines that answer numbers, in their order
abbrev pub replies : List ℕ → List ℕ
replies numbers = flat_map reply numbers
