use Rattle.std.proofs.Common.{◌≡◌, ◌≤◌, length, vec_capacity}
use Rattle.std.specs.Prelude.{All}
use Rattle.table_shared.specs.Lineages.{IsOpen}
use Rattle.table_shared.proofs.lineage.later.Later.new.Given as goal

abbrev pub invariant-loop-made : goal.invariant-loop-made
invariant-loop-made g l = All (IsOpen l.home.id l.alloc) l.words.items × (length l.words.items ≡ l._made) × (60 ≤ vec_capacity l.words)
