-- The words and the values of a chain.
use Rattle.std.specs.Prelude.{◌≡◌, ℕ, ◌<◌, ◌≤◌, ◌⊎◌, true, List, length, slice_index_or, Some}
use mathlib.Core.List.{IsPrefix}
use Rattle.logbook.specs.Pages.{Book, Named}
use Rattle.table_slab.specs.Endings.{EndView, IsLeft}
use Rattle.table_chain.specs.declared.event.Stored.TheVariants.{Shown, End}
use Rattle.table_chain.specs.History.{History, event, Has, Stands, IsUntouched, HasSize, IsReached, Adds}
use Rattle.table_slab.specs.Shelved.{slab_of}
use Rattle.table_chain.specs.declared.show.Showing.{Showing}
use Rattle.table_chain.specs.declared.show.Showing.TheVariants as showing

-- a word that this book counts
abbrev pub IsWord : Book → Named → Type 0
IsWord b w = (w.tracked ≡ true) × (w.book ≡ b)

-- which chain it is, how many slots it has, the names of its slab, and the history that it was made with
pub record ChainView (G : Type 0) : Type 0 where
  pub book : Book
  pub slots : ℕ
  pub names : List ℕ
  pub start : History G

abbrev pub chain_view : {G : Type 0} → Book → List Named → List ℕ → History G → ChainView G
chain_view b ws names log = record { book = b; slots = length ws; names = names; start = log }

-- each word has its place as its key
abbrev pub AreWords : Book → List Named → Type 0
AreWords b ws = (k : ℕ) (d : Named) → k < length ws → IsWord b (slice_index_or ws k d) × ((slice_index_or ws k d).key ≡ k)

module _ {G : Type 0} where
  -- the chain ends before the slot
  abbrev pub IsEnd : History G → ℕ → Type 0
  IsEnd log p = (k : ℕ) × Has log p k End

  -- no value stands in the slot
  abbrev pub IsOpen : History G → ℕ → Type 0
  IsOpen log p = IsUntouched log p ⊎ IsEnd log p

module _ {G : Type 0} (Begins : G → Type 0) (Follows : G → G → Type 0) where
  pub record IsLaid (b : Book) (log : History G) (ws : List Named) : Type 0 where
    pub words : AreWords b ws
    pub size : HasSize (length ws) log
    pub reached : IsReached Begins Follows log

  -- a history of this chain, that was reached
  abbrev pub IsOf : ChainView G → Book → List ℕ → History G → Type 0
  IsOf c b names log = (b ≡ c.book) × (names ≡ c.names) × HasSize c.slots log × IsReached Begins Follows log

  -- g was shown in the slot p, which had nothing
  abbrev pub IsShown : ℕ → G → History G → History G → Type 0
  IsShown p g old new = (k : ℕ) × Adds Begins Follows (event p k (Some (Shown g))) p old new

  -- the value is shown in the slot p; or it comes back, beside what stands there; or it comes back, and no value stands there
  abbrev pub Shows : ℕ → G → History G → History G → Showing G → Type 0
  Shows p g old new (showing.Shown e) = (e.now ≡ g) × IsShown p g old new
  Shows p g old new (showing.Other e back) = (back ≡ g) × Stands new p e.now
  Shows p g old new (showing.Refused back) = (back ≡ g) × IsOpen new p

module _ {G : Type 0} where
  -- the slots below n have values, and the chain ends there
  pub record IsWhole (slots n : ℕ) (log : History G) : Type 0 where
    pub within : n ≤ slots
    pub values : (p : ℕ) → p < n → (g : G) × Stands log p g
    pub last : (n ≡ slots) ⊎ IsEnd log n

  -- these are the values of the chain, in the order of slots
  pub record AreValues (log : History G) (gs : List G) : Type 0 where
    pub each : (p : ℕ) (d : G) → p < length gs → Stands log p (slice_index_or gs p d)
    pub none : (p : ℕ) (g : G) → Stands log p g → p < length gs

  -- no value that stands in a slot from n on was taken out
  abbrev pub AreLeft : EndView → ℕ → History G → Type 0
  AreLeft left n log = (p k : ℕ) (g : G) → n ≤ p → Has log p k (Shown g) → IsLeft left k

-- the history of a chain that has ended, how many values stand there, and how many were handed out
pub record EndingView (G : Type 0) : Type 0 where
  pub log : History G
  pub count : ℕ
  pub taken : ℕ

abbrev pub ending_view : {G : Type 0} → History G → ℕ → ℕ → EndingView G
ending_view log count taken = record { log = log; count = count; taken = taken }

module _ {G : Type 0} (Begins : G → Type 0) (Follows : G → G → Type 0) where
  -- no value is shown any more
  abbrev pub IsFinal : History G → Type 0
  IsFinal log = (later : History G) → IsPrefix log later → IsReached Begins Follows later → (p : ℕ) (g : G) → Stands later p g → Stands log p g

  -- the slots from `taken` on are as the history says, up to the last
  pub record IsEnding (b : Book) (names : List ℕ) (log : History G) (ws : List Named) (left : EndView) (count taken : ℕ) : Type 0 where
    pub laid : IsLaid Begins Follows b log ws
    pub whole : IsWhole (length ws) count log
    pub slab : left.slab ≡ slab_of names
    pub left_in : AreLeft left taken log
    pub some : taken ≤ count
