-- The end of a set: the history that it ended with, and the values that are still to come.
use Rattle.std.specs.Prelude.{◌≡◌, ℕ, ◌≤◌, Bool, List}
use Rattle.logbook.specs.Pages.{Book}
use Rattle.table_chain.specs.History as chain
use Rattle.table_chain.specs.Chains.{ChainView, IsFinal}
use Rattle.table_numbered.specs.History.{History}
use Rattle.table_numbered.specs.Ending.{LeftView, AreValues}
use Rattle.table_numbered.specs.declared.event.Numbered.{Numbered}
use Rattle.shared_set.specs.Stages.{stages, StageView, Course, Begins, GrowsInto}
use Rattle.shared_set.specs.Known.{SharedView, shared_view, IsSeen}

-- which set has ended, the history of its newest generation when it ended, and the values that are still to come
pub record EndedView (V : Type 0) : Type 0 where
  pub of : SharedView
  pub history : History (Numbered V)
  pub left : List V

module _ {V : Type 0} where
  abbrev pub ended_view : ChainView (StageView V) → LeftView V → EndedView V
  ended_view c values = record { of = shared_view c values.of.slab; history = values.history; left = values.left }

  -- the same set, with the same history
  abbrev pub IsSameEnd : EndedView V → EndedView V → Type 0
  IsSameEnd a b = (b.of ≡ a.of) × (b.history ≡ a.history)

  -- this set has ended, and the values of all its entries are still to come, each once, in some order
  pub record Ends (same : V → V → Bool) (set : SharedView) (e : EndedView V) : Type 0 where
    pub of : e.of ≡ set
    pub values : AreValues same e.history e.left

  -- the chain is closed, and the values are those of the stage in its last slot
  pub record IsEnded (same : V → V → Bool) (hash : V → ℕ) (c : ChainView (StageView V)) (book : Book) (names : List ℕ) (course : Course V) (slot : ℕ) (values : LeftView V) : Type 0 where
    pub slots : c.slots ≡ stages
    pub seen : IsSeen same hash (shared_view c values.of.slab) book names course
    pub final : IsFinal (Begins same hash) (GrowsInto same hash) course
    pub last : (p : ℕ) (s : StageView V) → chain.Stands course p s → p ≤ slot
    pub stage : StageView V
    pub shown : chain.Stands course slot stage
    pub of : values.of ≡ stage.of.of
