-- What a memo table keeps: answers, each by its argument.
use Rattle.std.specs.Prelude.{◌≡◌, ℕ, Bool, Contains}
use Rattle.std.specs.declared.boxed.Box.{Box}
use Rattle.table_terms.specs.Laws.{same_by_number, hash_by_number}
use Rattle.table_held.specs.Table.{HeldTable, IsLawful, entries}
use Rattle.tool_lines.specs.declared.memo.Answer.{Answer}

-- answers are the same if their arguments are
abbrev pub same_answer : Answer → Answer → Bool
same_answer = same_by_number (λ a. a.argument)

-- and an answer is hashed by its argument
abbrev pub answer_hash : Answer → ℕ
answer_hash = hash_by_number (λ a. a.argument)

module _ {A : Type 0} where
  -- the table is lawful for answers
  abbrev pub IsByArgument : HeldTable (Box Answer A) → Type 0
  IsByArgument t = IsLawful (λ b. b.value) same_answer answer_hash t

  -- the answer to this argument is kept
  abbrev pub Keeps : HeldTable (Box Answer A) → ℕ → Type 0
  Keeps t argument = (b : Box Answer A) × Contains (entries t) b × (b.value.argument ≡ argument)

  -- what was kept still is
  abbrev pub KeepsAll : HeldTable (Box Answer A) → HeldTable (Box Answer A) → Type 0
  KeepsAll old new = (argument : ℕ) → Keeps old argument → Keeps new argument
