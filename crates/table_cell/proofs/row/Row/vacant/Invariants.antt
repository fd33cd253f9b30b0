use Rattle.std.proofs.Common.{◌≡◌, ◌≤◌, ℕ, List, length, replicate, vec_capacity}
use Rattle.std.specs.Prelude.{All}
use Rattle.table_cell.specs.Contents.{IsMarked}
use Rattle.table_cell.specs.Rows.{WordLies}
use Rattle.table_cell.specs.Words.{WordView}
use Rattle.table_cell.specs.declared.bucket.Entry.{Entry}
use Rattle.table_cell.specs.declared.bucket.Mark.{Mark}
use Rattle.table_cell.specs.declared.bucket.Mark.TheVariants.{Unmarked}
use Rattle.table_cell.proofs.row.Row.vacant.Given as goal

-- so many vacant buckets are made, and the rest of the capacity fits
pub record AreMade {A T : Type 0} (home : ℕ) (alloc : A) (capacity made : ℕ) (ms : List Mark) (ws : List (WordView A (Entry T))) (marks_fit words_fit : ℕ) : Type 0 where
  pub marks : ms ≡ replicate made Unmarked
  pub long : length ws ≡ made
  pub vacant : All (IsMarked Unmarked) ws
  pub lies : All (WordLies home alloc) ws
  pub marks_room : capacity ≤ marks_fit
  pub words_room : capacity ≤ words_fit

abbrev pub invariant-loop-made : goal.invariant-loop-made
invariant-loop-made g l =
    AreMade l.home.id l.alloc l.capacity l._made l.marks.items l.words.items (vec_capacity l.marks) (vec_capacity l.words)
