-- The lines that answer numbers, one after another.
use Rattle.std.proofs.Common.{◌≡◌, ◌+◌, ◌<◌, ◌++◌, ℕ, List, length, get_or, drop, ◌∷◌, ◌∙◌, append_assoc}
use Rattle.std.proofs.lemmas.List.{drop_more}
use Rattle.tool_lines.specs.Replies.{reply, replies}

-- one line more is written
pub next_reply : (numbers : List ℕ) (n : ℕ) (written all : List ℕ) → n < length numbers
    → written ++ replies (drop n numbers) ≡ all
    → (written ++ reply (get_or numbers n 0)) ++ replies (drop (n + 1) numbers) ≡ all
next_reply numbers n written all below is =
    let first : drop n numbers ≡ get_or numbers n 0 ∷ drop (n + 1) numbers = drop_more numbers n 0 below in
    append_assoc written _ _ ∙ (rw first at is)
