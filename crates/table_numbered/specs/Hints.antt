-- Hints: words that say of numbers that they are taken.
use Rattle.std.specs.Prelude.{◌≡◌, ℕ, ◌/◌, ◌%◌, ◌^◌, ◌<◌, false, List, length, slice_index_or}
use Rattle.std.specs.Int.{bit_at}
use Rattle.logbook.specs.Pages.{Book, Named}
use Rattle.table_numbered.specs.declared.event.Numbered.{Numbered}
use Rattle.table_numbered.specs.History.{History}
use Rattle.table_numbered.specs.Walking.{IsTaken}

-- the word names the number k: its upper half says which 32 numbers it is about, and its lower half has a bit for each
abbrev pub Names : ℕ → ℕ → Type 0
Names word k = (word / 2 ^ 32 ≡ k / 32) × (bit_at word (k % 32) ≡ 1)

-- each number that the word names is taken
abbrev pub NamesTaken : {V : Type 0} → ℕ → History (Numbered V) → Type 0
NamesTaken word log = (k : ℕ) → Names word k → IsTaken log k

-- a word that this book does not track
abbrev pub IsHint : Book → Named → Type 0
IsHint b w = (w.tracked ≡ false) × (w.book ≡ b)

abbrev pub AreHints : Book → List Named → Type 0
AreHints b ws = (k : ℕ) (d : Named) → k < length ws → IsHint b (slice_index_or ws k d)
