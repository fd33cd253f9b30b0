-- What an account of a set says: which entries its receipts are of, and what that means for the values that come out at the set's end.
use Rattle.std.specs.Prelude.{◌≡◌, ℕ, ◌<◌, ◌≤◌, ◌++◌, ◌==◌, Bool, List, length, map, count_by, Contains}
use Rattle.std.specs.List.Sorted.{IsPermutation}
use Rattle.table_slab.specs.Slabs.{SlabView}
use Rattle.table_numbered.specs.Words.{numbered}
use Rattle.table_numbered.specs.History.{History, IsEntry}
use Rattle.table_numbered.specs.declared.event.Numbered.{Numbered}
use Rattle.shared_set.specs.declared.account.Settled.{Settled}
use Rattle.shared_set.specs.declared.account.Settled.TheVariants.{All, More}
use Rattle.shared_set.specs.declared.cursor.Cursor.{Cursor}
use Rattle.shared_set.specs.Ending.{EndedView}
use Rattle.shared_set.specs.Known.{SharedView, IsCursor, set_of}

-- which set it is of, the history that is known, and the entries for which it has receipts
pub record AccountView (V : Type 0) : Type 0 where
  pub of : SharedView
  pub history : History (Numbered V)
  pub placed : List (Numbered V)

module _ {V : Type 0} where
  abbrev pub entries_of : List (ℕ × V) → List (Numbered V)
  entries_of es = map (λ e. numbered e.0 e.1) es

  abbrev pub account_view : SharedView → History (Numbered V) → List (ℕ × V) → AccountView V
  account_view g log es = record { of = g; history = log; placed = entries_of es }

  -- the values of the entries
  abbrev pub placed_values : AccountView V → List V
  placed_values a = map (λ (e : Numbered V). e.value) a.placed

  -- no two of the entries have one number
  abbrev pub DifferByNumber : List (Numbered V) → Type 0
  DifferByNumber es = (number : ℕ) → count_by (λ (e : Numbered V). number == e.number) es ≤ 1

  -- the values of the entries of the history are among those that come out
  abbrev pub ComeOut : History (Numbered V) → List V → Type 0
  ComeOut log out = (e : Numbered V) → IsEntry log e → Contains out e.value

module _ {V L A : Type 0} where
  abbrev pub end_of : Settled V L A → EndedView V
  end_of (All values) = values
  end_of (More values) = values

  -- the values of the account come out, each once, and no others, or others too
  abbrev pub Settles : AccountView V → Settled V L A → Type 0
  Settles a (All values) = IsPermutation (placed_values a) values.left
  Settles a (More values) = (others : List V) × (0 < length others) × IsPermutation (placed_values a ++ others) values.left

module _ {V L A : Type 0} (same : V → V → Bool) (hash : V → ℕ) where
  -- an account between two calls: its receipts are of entries that its cursor knows
  pub record IsAccount (c : Cursor V L A) (slab : SlabView) (es : List (ℕ × V)) (count : ℕ) : Type 0 where
    pub at : IsCursor same hash (set_of c) c
    pub of : slab ≡ (set_of c).slab
    pub known : (e : Numbered V) → Contains (entries_of es) e → IsEntry c.entries.log e
    pub counted : count ≡ length es
