-- Which slot has which number. The chunk at place k has 2 ^ (bits + k) slots, and the numbers of a chunk follow those of the one before.
use Rattle.std.specs.Prelude.{◌≡◌, ℕ, ◌+◌, ◌^◌, ◌<◌}

-- how many slots a chunk has
abbrev pub chunk_len : ℕ → ℕ → ℕ
chunk_len bits place = 2 ^ (bits + place)

-- the number is that of the slot at this offset of the chunk at this place: the chunks before it have chunk_len bits place - 2 ^ bits slots
pub record IsAt (bits number place offset : ℕ) : Type 0 where
  pub within : offset < chunk_len bits place
  pub counted : number + 2 ^ bits ≡ chunk_len bits place + offset

-- a number that 32 bits have room for beside two values that are no number
abbrev pub IsSmall : ℕ → Type 0
IsSmall number = number + 2 < 2 ^ 32
