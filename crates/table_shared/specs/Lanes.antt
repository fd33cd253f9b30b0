-- The lanes of a table's lock that are held alone.
use Rattle.std.specs.Prelude.{◌≡◌, ℕ, ◌+◌}
use Rattle.table_shared.specs.declared.locks.Four.{Four}

-- four lanes are those from this number on
pub record AreFourFrom (first : ℕ) (held : Four) : Type 0 where
  pub one : held.one.number ≡ first
  pub two : held.two.number ≡ first + 1
  pub three : held.three.number ≡ first + 2
  pub four : held.four.number ≡ first + 3
