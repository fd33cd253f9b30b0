use Rattle.std.proofs.Common.{◌≡◌, ◌≤◌, ℕ, Bool, List, length}
use Rattle.std.specs.Prelude.{All}
use Rattle.std.specs.Fn.{FnReturnsAt, FnReturnsAtPair}
use Rattle.std.specs.Vec.{vec_len, vec_capacity}
use Rattle.table_held.specs.Calls.{FnReturnsAtTwo}
use Rattle.table_held.specs.Runs.{OnlyAsks, RunKeeps, RunStaysLawful, RunAnswers}
use Rattle.table_held.specs.declared.runs.Call.{Call}
use Rattle.table_held.specs.declared.runs.Reply.{Reply}
use Rattle.table_held.specs.Shown.{Shows, IsLater, entries_of}
use Rattle.table_held.proofs.runs.run_calls.Given as goal

-- what holds of the table that these calls began with, once they are answered so
pub record AreAnswered {X T P U K : Type 0} (target : T → U) (same : U → U → Bool) (hash_of : U → ℕ) (s : Shows X T P) (eq : U → U → Bool → Type 0) (rehash : U → ℕ → Type 0)
    (test : K → U → Bool → Type 0) (old : X) (calls : List (Call T K)) (replies : List (Reply T U)) (new : X) : Type 0 where
  pub keeps : RunKeeps (entries_of s old) calls replies (entries_of s new)
  pub later : IsLater s old new
  pub counted : s.counted new
  pub unchanged : All OnlyAsks calls → new ≡ old
  pub lawful : RunStaysLawful target same hash_of s eq rehash old calls new
  pub answers : RunAnswers target same hash_of s eq rehash test old calls replies new

abbrev pub invariant-loop-call : goal.invariant-loop-call
invariant-loop-call g l =
    AreAnswered g.T.AtomicValue.target g.L.Law.same g.L.Law.hash_of g.B.AloneTable.shows (FnReturnsAtPair g.E.Fn l.eq) (FnReturnsAt g.H.Fn l.hash_fn) (FnReturnsAtTwo g.P.Fn l.test)
    l.fn.table l.yielded l.replies.items l.table
    × (vec_len l.replies ≡ length l.yielded)
    × (length l.fn.calls.items ≤ vec_capacity l.replies)
