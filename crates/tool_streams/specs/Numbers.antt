-- How a number is spelled.
use Rattle.std.specs.Prelude.{◌≡◌, ◌⊎◌, ℕ, ◌^◌, ◌<◌, ◌≤◌, List, ◌++◌, length, codes}
use Rattle.std.specs.Str.Parse.{IsNumeral, digits_value}

-- at most so many digits of the radix, and not none, that write the number n, which is below 2^64
pub record Writes (radix most : ℕ) (digits : List ℕ) (n : ℕ) : Type 0 where
  pub numeral : IsNumeral radix digits
  pub short : length digits ≤ most
  pub value : n ≡ digits_value radix digits
  pub small : n < 2 ^ 64

-- 1 to 20 decimal digits, or 0x and 1 to 16 hexadecimal digits of either case
abbrev pub SpellsNumber : List ℕ → ℕ → Type 0
SpellsNumber text n =
    Writes 10 20 text n
    ⊎ ((digits : List ℕ) × (text ≡ codes "0x" ++ digits) × Writes 16 16 digits n)
