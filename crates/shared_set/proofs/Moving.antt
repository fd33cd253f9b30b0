-- A cursor moves on to the stages that are behind its own.
use Rattle.std.proofs.Common.{◌≡◌, ℕ, suc, ◌<◌, Bool, arith, inl, inr, sym, rules}
use Rattle.std.specs.Prelude.{Option, Some, None, IsSome}
use Rattle.std.specs.Borrow.{Bor}
use Rattle.table_chain.specs.History as chain
use Rattle.shared_set.specs.Stages.{StageView, Course, IsRun}
use Rattle.shared_set.specs.Known.{Stepped, IsFurther}
use Rattle.shared_set.proofs.Courses.{below, open_none}

module _ {V : Type 0} (same : V → V → Bool) (hash : V → ℕ) where
  -- a step comes to the next stage where a later one is known
  pub moves_on : (r : Option (Bor (StageView V))) (course : Course V) (i j n : ℕ) (s : StageView V) → i < n → IsRun same hash course → chain.Stands course n s → Stepped i j course r → IsSome r
  moves_on None course i j n s lt run there stays = let b = below same hash n (suc i) s course run (omega (arith, lt)) there in absurd (open_none same hash (suc i) b.0 course run stays.1 b.1)
  moves_on (Some x) course i j n s lt run there moved = search rules

  pub moved_on : (r : Option (Bor (StageView V))) (course : Course V) (i j n : ℕ) (s : StageView V) → i < n → IsRun same hash course → chain.Stands course n s → Stepped i j course r → j ≡ suc i
  moved_on None course i j n s lt run there stays = let b = below same hash n (suc i) s course run (omega (arith, lt)) there in absurd (open_none same hash (suc i) b.0 course run stays.1 b.1)
  moved_on (Some x) course i j n s lt run there moved = moved.0

-- two cursors that go to each other's slots come to one
pub same_slot : (mine theirs one two : ℕ) → IsFurther mine theirs one → IsFurther theirs one two → one ≡ two
same_slot mine theirs one two first second = elim second.2 [
  | inl is ↦ omega (arith, is, first.1, second.1)
  | inr is ↦ sym is
]
