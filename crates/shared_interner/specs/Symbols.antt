-- Symbols, as contracts see them.
use Rattle.std.specs.Prelude.{ℕ, ◌-◌}
use Rattle.std.specs.Int.NonZero.{non_zero_u32_get}
use Rattle.shared_interner.specs.declared.symbol.Symbol.{Symbol}

-- the number of the entry that the symbol is of: one less than what it has in memory
abbrev pub number_of : Symbol → ℕ
number_of s = non_zero_u32_get s.number - 1
