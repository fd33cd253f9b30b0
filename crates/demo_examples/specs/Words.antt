-- Words, each the same as itself alone and its own hash.
use Rattle.std.specs.Prelude.{ℕ, ◌==◌, ◌%◌, ◌^◌, Bool}
use Rattle.std.proofs.Common.{arith}
use Rattle.std.proofs.lemmas.Grind.{common_steps}
use Rattle.table_terms.specs.Laws.{IsLaw}
use Rattle.table_held.specs.Table.{HeldTable, IsLawful}

abbrev pub same_word : ℕ → ℕ → Bool
same_word a b = a == b

-- the word, which is below 2^64
abbrev pub word_hash : ℕ → ℕ
word_hash a = a % 2 ^ 64

pub words_lawful : IsLaw same_word word_hash
words_lawful = grind (arith, common_steps)

-- the table is lawful for words, which its values lead to
abbrev pub HoldsWords : {T : Type 0} → (T → ℕ) → HeldTable T → Type 0
HoldsWords target t = IsLawful target same_word word_hash t
