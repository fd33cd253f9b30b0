-- The order of look-ups.
use Rattle.std.specs.Prelude.{ℕ, ◌+◌, ◌*◌, ◌%◌}

-- the index that has this turn: 7,697 undoes the factor of `turn`, modulo a million
abbrev pub index_of_turn : ℕ → ℕ
index_of_turn t = (t + 987655) * 7697 % 1000000
