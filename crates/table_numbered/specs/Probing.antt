-- The buckets that a probe looks at.
use Rattle.std.specs.Prelude.{ℕ, ◌*◌, ◌/◌, ◌^◌}
use Rattle.table_terms.specs.Probes as round

-- of n buckets, the first one of a probe for a mark of 32 bits: its part of n. A probe goes on in the order of marks
unfoldable pub first_of : ℕ → ℕ → ℕ
first_of n mark = mark * n / 2 ^ 32

-- the one that it looks at after k others
abbrev pub bucket_at : ℕ → ℕ → ℕ → ℕ
bucket_at n mark k = round.bucket_at n (first_of n mark) k
