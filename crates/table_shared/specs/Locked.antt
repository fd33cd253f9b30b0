-- What is told by a lock of a table that is held.
use Rattle.std.specs.Prelude.{ℕ}

-- a lock of a table, shared or held alone: the home of that table
pub record LockView : Type 0 where
  pub home : ℕ

-- a lane that is held alone, by its number
pub record LaneView : Type 0 where
  pub number : ℕ
