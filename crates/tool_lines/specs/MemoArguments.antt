-- What the words after the name of `tool_memo` ask for.
use Rattle.std.specs.Prelude.{◌≡◌, ℕ, List, [], ◌∷◌, codes}
use Rattle.tool_lines.specs.Tools.{IsThreadCount}
use Rattle.tool_lines.specs.declared.memo_program.MemoRequest.{MemoRequest}
use Rattle.tool_lines.specs.declared.memo_program.MemoRequest.TheVariants.{Lines, Batches}

-- how the program is called
abbrev pub memo_usage : List ℕ
memo_usage = codes "usage: tool_memo [--threads N]"

-- the words are one word alone, which is a number of threads
abbrev pub NamesThreads : List (List ℕ) → ℕ → Type 0
NamesThreads [] n = ⊥
NamesThreads (word ∷ []) n = IsThreadCount word n
NamesThreads (word ∷ more ∷ words) n = ⊥

-- no word, or `--threads` and a number of threads
abbrev pub AsksMemo : List (List ℕ) → MemoRequest → Type 0
AsksMemo [] Lines = Unit {0}
AsksMemo [] (Batches n) = ⊥
AsksMemo (name ∷ words) Lines = ⊥
AsksMemo (name ∷ words) (Batches n) = (name ≡ codes "--threads") × NamesThreads words n
