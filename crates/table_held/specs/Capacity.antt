-- How many buckets a table has.
use Rattle.std.specs.Prelude.{◌≡◌, ◌⊎◌, ℕ, ◌+◌, ◌*◌, ◌≤◌, ◌^◌}
-- under the paths that callers know
pub use Rattle.std.specs.Int.{IsPowerOfTwo}
pub use Rattle.table_terms.specs.Capacities.{IsFirstCapacity}

-- no bucket, or as many as the first capacity doubled some times
abbrev pub IsDoubled : ℕ → ℕ → Type 0
IsDoubled first c = (c ≡ 0) ⊎ ((k : ℕ) × (c ≡ first * 2 ^ k))

-- c buckets in the current generation after `grown` growths, total buckets in all generations,
-- and n entries:
-- each generation is twice the one before, and one beyond the first was made for at least a
-- quarter of its buckets
pub record IsSized (first grown c total n : ℕ) : Type 0 where
  pub doubled : c ≡ first * 2 ^ grown
  pub all : total + first ≡ 2 * c
  pub wanted : (c ≡ first) ⊎ (c ≤ 4 * n)
