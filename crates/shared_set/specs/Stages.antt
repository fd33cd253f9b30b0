-- The stages of a set: generations in a chain, each beside what the one before it had once it was full.
use Rattle.std.specs.Prelude.{◌≡◌, ℕ, suc, ◌*◌, Bool}
use mathlib.Core.List.{IsPrefix}
use Rattle.logbook.specs.Pages.{Book}
use Rattle.table_chain.specs.History as chain
use Rattle.table_numbered.specs.Words.{alike, marked}
use Rattle.table_numbered.specs.History.{History, HasSize, IsFull, IsReached}
use Rattle.table_numbered.specs.Generations.{GenerationView}
use Rattle.table_numbered.specs.Carrying.{BeginsAs}
use Rattle.table_numbered.specs.declared.event.Numbered.{Numbered}

-- how many stages a set may have
abbrev pub stages : ℕ
stages = 33

-- a generation, and the book and the whole history of the one before it
pub record StageView (V : Type 0) : Type 0 where
  pub of : GenerationView V
  pub before_book : Book
  pub before : History (Numbered V)

abbrev pub stage_view : {V : Type 0} → GenerationView V → Book → History (Numbered V) → StageView V
stage_view g b log = record { of = g; before_book = b; before = log }

-- the history of a set's chain: which stage was shown in which slot
abbrev pub Course : Type 0 → Type 0
Course V = chain.History (StageView V)

-- a stage is in the slot after this one
abbrev pub HasNext : {V : Type 0} → ℕ → Course V → Type 0
HasNext {V} slot course = (s : StageView V) × chain.Stands course (suc slot) s

module _ {V : Type 0} (same : V → V → Bool) (hash : V → ℕ) where
  -- any stage may be the first
  abbrev pub Begins : StageView V → Type 0
  Begins s = Unit {0}

  -- the stage t has twice the buckets of s, over the same slab; it began with the entries that s has for good, and with nothing else
  pub record GrowsInto (s t : StageView V) : Type 0 where
    pub book : t.before_book ≡ s.of.of.book
    pub slab : t.of.of.slab ≡ s.of.of.slab
    pub size : t.of.of.size ≡ 2 * s.of.of.size
    pub begun : HasSize s.of.of.size t.before
    pub full : IsFull s.of.of.size t.before
    pub reached : IsReached (alike same) (marked hash) t.before
    pub since : IsPrefix s.of.start t.before
    pub begins : BeginsAs t.before t.of.start

  -- a course that was reached
  abbrev pub IsRun : Course V → Type 0
  IsRun course = chain.IsReached Begins GrowsInto course
