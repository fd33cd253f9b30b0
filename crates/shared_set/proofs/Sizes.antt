-- How many buckets there are.
use Rattle.std.proofs.Common.{ℕ, suc, ◌<◌, ◌≤◌, ◌^◌, arith}
use Rattle.std.specs.Int.{IsPowerOfTwo}
use Rattle.std.proofs.Math.Pow.{pow_mono}
use mathlib.Core.Logic.{dite}
use native.Mathlib.Decide.{dec_lt}

-- a power of two below the next one of 2 ^ j is at most 2 ^ j
pub at_most : (j n : ℕ) → IsPowerOfTwo n → n < 2 ^ suc j → n ≤ 2 ^ j
at_most j n (k, is) lt = dite (dec_lt k (suc j))
    (λ (less : k < suc j). let le : 2 ^ k ≤ 2 ^ j = pow_mono {i = k} {j = j} (omega (arith, less)) in omega (arith, le, is))
    (λ (no : k < suc j → ⊥). let le : 2 ^ suc j ≤ 2 ^ k = pow_mono {i = suc j} {j = k} (omega (arith, no)) in absurd (omega (arith, le, is, lt)))
