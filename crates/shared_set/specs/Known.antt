-- What a thread knows of a set, and where in its chain it is.
use Rattle.std.specs.Prelude.{◌≡◌, ℕ, suc, ◌≤◌, ◌⊎◌, Bool, List, [], Option, Some, None, IfSome}
use Rattle.std.specs.Borrow.{Bor}
use Rattle.logbook.specs.Pages.{Book}
use Rattle.table_slab.specs.Slabs.{SlabView}
use Rattle.table_slab.specs.Shelved.{slab_of}
use Rattle.table_chain.specs.History as chain
use Rattle.table_chain.specs.Chains.{ChainView, IsOpen}
use Rattle.table_numbered.specs.Words.{of_value}
use Rattle.table_numbered.specs.History.{History, IsUntouched, IsEntry, NonePasses}
use Rattle.table_numbered.specs.Generations.{IsOf, Passes}
use Rattle.table_numbered.specs.declared.event.Numbered.{Numbered}
use Rattle.shared_set.specs.declared.cursor.Cursor.{Cursor}
use Rattle.shared_set.specs.declared.supply.Supply.{Supply}
use Rattle.shared_set.specs.Stages.{stages, StageView, Course, IsRun}
use Rattle.shared_set.specs.Supplies.{IsSupplyOf}

-- which set it is: the book and the slab of its chain, and the slab of its entries
pub record SharedView : Type 0 where
  pub book : Book
  pub names : List ℕ
  pub slab : SlabView

abbrev pub shared_view : {V : Type 0} → ChainView (StageView V) → SlabView → SharedView
shared_view c s = record { book = c.book; names = c.names; slab = s }

-- what a contract sees of a set: which set it is, the history that its first generation began with, and what each new handle knows
pub record SharedSetView (V : Type 0) : Type 0 where
  pub of : SharedView
  pub start : History (Numbered V)
  pub known : History (Numbered V)

-- what a cursor knows, and nothing where there is none
abbrev pub known_by : {V L A : Type 0} → Option (Cursor V L A) → History (Numbered V)
known_by None = []
known_by (Some c) = c.entries.log

abbrev pub shared_set_view : {V : Type 0} → SharedView → History (Numbered V) → History (Numbered V) → SharedSetView V
shared_set_view g start known = record { of = g; start = start; known = known }

-- the set that a cursor is of
abbrev pub set_of : {V L A : Type 0} → Cursor V L A → SharedView
set_of c = record {
  book = c.stages.book;
  names = c.stages.names;
  slab = slab_of c.entries.names;
}

-- of which set a thread knows, and the history that it has seen of the newest generation that it has met
pub record KnownView (V : Type 0) : Type 0 where
  pub of : SharedView
  pub history : History (Numbered V)

abbrev pub known_view : {V : Type 0} → SharedView → History (Numbered V) → KnownView V
known_view g log = record { of = g; history = log }

module _ {V : Type 0} where
  -- each entry of the one history is an entry of the other, with its number
  abbrev pub Keeps : History (Numbered V) → History (Numbered V) → Type 0
  Keeps old new = (e : Numbered V) → IsEntry old e → IsEntry new e

  -- what holds of some history that has each entry of this one
  abbrev pub Later : History (Numbered V) → (History (Numbered V) → Type 0) → Type 0
  Later known Holds = (log : History (Numbered V)) × Keeps known log × Holds log

  -- it is of the same set, and each entry that was known before is known later
  abbrev pub KnowsMore : KnownView V → KnownView V → Type 0
  KnowsMore old new = (new.of ≡ old.of) × Keeps old.history new.history

  -- an entry that is known passes the test, with some number
  abbrev pub SomePasses : (V → Bool) → (Numbered V → Type 0) → Type 0
  SomePasses test Knows = (k : ℕ) × (v : V) × Passes test Knows k v

  -- what a look-up that shows no number shows, by which entries its caller knows after
  abbrev pub Gets : (V → Bool) → (Numbered V → Type 0) → Option (Bor V) → Type 0
  Gets test Knows (Some e) = (k : ℕ) × Passes test Knows k e.now
  Gets test Knows None = NonePasses (of_value test) Knows

  -- no bucket has an entry, and none is closed
  abbrev pub IsEmpty : History (Numbered V) → Type 0
  IsEmpty log = (p : ℕ) → IsUntouched log p

-- the chain of a set over this slab: its first stage is over the slab
pub record IsChainOver {V : Type 0} (c : ChainView (StageView V)) (s : SlabView) : Type 0 where
  pub slots : c.slots ≡ stages
  pub first : StageView V
  pub begins : chain.Stands c.start 0 first
  pub over : first.of.of.slab ≡ s

-- where a cursor that was in the slot `old` is after a step: at the stage that is shown, or where it was, since none is in the next slot
abbrev pub Stepped : {V : Type 0} → ℕ → ℕ → Course V → Option (Bor (StageView V)) → Type 0
Stepped old new course None = (new ≡ old) × IsOpen course (suc old)
Stepped old new course (Some s) = (new ≡ suc old) × chain.Stands course new s.now

-- the further one of two slots
abbrev pub IsFurther : ℕ → ℕ → ℕ → Type 0
IsFurther a b c = (a ≤ c) × (b ≤ c) × ((c ≡ a) ⊎ (c ≡ b))

module _ {V : Type 0} (same : V → V → Bool) (hash : V → ℕ) where
  -- what was seen of the chain of this set
  pub record IsSeen (g : SharedView) (book : Book) (names : List ℕ) (course : Course V) : Type 0 where
    pub of_chain : book ≡ g.book
    pub of_slab : names ≡ g.names
    pub size : chain.HasSize stages course
    pub reached : IsRun same hash course

  -- in the slot stands the stage whose generation's history has come so far
  pub record IsAt (g : SharedView) (slot : ℕ) (book : Book) (names : List ℕ) (course : Course V)
      (entries_book : Book) (entries_names : List ℕ) (log : History (Numbered V)) : Type 0 where
    pub seen : IsSeen g book names course
    pub stage : StageView V
    pub shown : chain.Stands course slot stage
    pub slab : stage.of.of.slab ≡ g.slab
    pub of : IsOf same hash stage.of.of entries_book entries_names log

  -- a cursor of this set
  abbrev pub IsCursor : {L A : Type 0} → SharedView → Cursor V L A → Type 0
  IsCursor g c = IsAt g c.slot c.stages.book c.stages.names c.stages.log c.entries.book c.entries.names c.entries.log

  -- a set between two calls: its chain is over its slab, its first stage began with this history, and what each new handle knows is of this set
  pub record IsShared {L A : Type 0} (c : ChainView (StageView V)) (s : SlabView) (start : History (Numbered V)) (told : Option (Cursor V L A)) : Type 0 where
    pub chain : IsChainOver c s
    pub with : chain.first.of.start ≡ start
    pub known : IfSome told (λ k. IsCursor (shared_view c s) k)

  -- a handle between two calls
  pub record IsHandle {L A : Type 0} (g : SharedView) (stage : StageView V) (c : Cursor V L A) (s : Supply V A) : Type 0 where
    pub at : IsCursor g c
    pub shown : chain.Stands c.stages.log c.slot stage
    pub supply : IsSupplyOf g.slab s
