-- The Fibonacci numbers.
use Rattle.std.specs.Prelude.{ℕ, ◌+◌, ◌%◌, ◌^◌}
use Rattle.std.proofs.Common.{zero, suc}

-- 0, 1, and then each the sum of the two before it
unfoldable pub fibonacci_number : ℕ → ℕ
fibonacci_number zero = 0
fibonacci_number (suc zero) = 1
fibonacci_number (suc (suc n)) = fibonacci_number (suc n) + fibonacci_number n

-- the Fibonacci number as a program's number
abbrev pub fibonacci_word : ℕ → ℕ
fibonacci_word n = fibonacci_number n % 2 ^ 64
