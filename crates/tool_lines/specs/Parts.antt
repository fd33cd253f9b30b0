-- The parts into which lines and words are split by their hashes.
use Rattle.std.specs.Prelude.{ℕ, ◌*◌, ◌/◌, ◌%◌, ◌^◌}

-- which of so many parts has this hash: the upper half of the hash times the number of parts, over 2^32
abbrev pub part_of : ℕ → ℕ → ℕ
part_of parts hash = hash / 2 ^ 32 * parts % 2 ^ 64 / 2 ^ 32
