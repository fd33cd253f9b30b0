-- Words in a table of any kind, by what it shows.
use Rattle.std.specs.Prelude.{ℕ}
use Rattle.table_held.specs.Shown.{Shows}
use Rattle.demo_examples.specs.Words.{same_word, word_hash}

-- the table is lawful for words, which its values lead to
abbrev pub HoldsWordsIn : {X T P : Type 0} → Shows X T P → (T → ℕ) → X → Type 0
HoldsWordsIn s target t = s.lawful ℕ target same_word word_hash t
