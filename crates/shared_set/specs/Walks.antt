-- What a walk over the entries of a set gives, and what must still come.
use Rattle.std.specs.Prelude.{◌≡◌, ℕ, ◌-◌, ◌<◌, ◌≤◌, ◌⊎◌, ◌==◌, Bool, List, Option, Some, None, map, Contains}
use Rattle.std.specs.Borrow.{Bor}
use Rattle.std.specs.Iterator.{Yields, Drains}
use mathlib.Core.List.{IsPrefix}
use Rattle.table_terms.specs.Laws.{AllApart}
use Rattle.table_chain.specs.History as chain
use Rattle.table_numbered.specs.Words.{numbered}
use Rattle.table_numbered.specs.History.{History, Stands, IsEntry}
use Rattle.table_numbered.specs.Walking.{HasAt}
use Rattle.table_numbered.specs.declared.event.Numbered.{Numbered}
use Rattle.shared_set.specs.declared.cursor.Cursor.{Cursor}
use Rattle.shared_set.specs.Stages.{StageView}
use Rattle.shared_set.specs.Known.{SharedView, KnownView, Keeps, IsCursor}

-- a walk over the buckets of a generation: of which set it is, what was known as it began, what is known by now, which bucket comes
-- next, and how many are left
pub record WalkView (V : Type 0) : Type 0 where
  pub of : SharedView
  pub begun : History (Numbered V)
  pub history : History (Numbered V)
  pub next : ℕ
  pub left : ℕ

abbrev pub walk_view : {V : Type 0} → SharedView → History (Numbered V) → History (Numbered V) → ℕ → ℕ → WalkView V
walk_view g begun log size left = record { of = g; begun = begun; history = log; next = size - left; left = left }

module _ {V : Type 0} where
  -- e was known as the walk began, and must still come
  abbrev pub IsDue : WalkView V → Numbered V → Type 0
  IsDue w e = (p : ℕ) × (w.next ≤ p) × Stands w.begun p e

  -- the walk has passed an entry with the number k
  abbrev pub IsPassed : WalkView V → ℕ → Type 0
  IsPassed w k = (p : ℕ) × (p < w.next) × HasAt w.history p k

  -- the walk goes on, and forgets nothing
  pub record GoesOn (old new : WalkView V) : Type 0 where
    pub of : new.of ≡ old.of
    pub begun : new.begun ≡ old.begun
    pub keeps : Keeps old.history new.history
    pub passed : (k : ℕ) → IsPassed old k → IsPassed new k
    pub left : new.left ≤ old.left

  -- the walk goes on, and misses no entry that must come
  pub record PassesNone (old new : WalkView V) : Type 0 where
    pub on : GoesOn old new
    pub due : (d : Numbered V) → IsDue old d → IsDue new d

  -- the walk gives e, which is an entry whose number it has not passed, and misses no other entry that must come
  pub record Gives (old : WalkView V) (e : Numbered V) (new : WalkView V) : Type 0 where
    pub on : GoesOn old new
    pub fewer : new.left < old.left
    pub entry : IsEntry new.history e
    pub first : IsPassed old e.number → ⊥
    pub passed : IsPassed new e.number
    pub due : (d : Numbered V) → IsDue old d → (d ≡ e) ⊎ IsDue new d

  -- no bucket is left, and no entry must come
  abbrev pub IsOver : WalkView V → Type 0
  IsOver w = (w.left ≡ 0) × ((d : Numbered V) → IsDue w d → ⊥)

  -- the bucket that comes next is this one; or none is left
  abbrev pub ComesNext : WalkView V → Option ℕ → Type 0
  ComesNext w None = IsOver w
  ComesNext w (Some index) = (index ≡ w.next) × (0 < w.left)

  -- the walk has ended, for good: no entry must come
  pub record HasEnded (old new : WalkView V) : Type 0 where
    pub on : GoesOn old new
    pub none : (d : Numbered V) → IsDue old d → ⊥
    pub over : new.left ≡ 0

  -- one bucket: it has no entry that must come, or its entry is given
  abbrev pub Visits : WalkView V → Option (ℕ × Bor V) → WalkView V → Type 0
  Visits old None new = PassesNone old new × (new.left < old.left)
  Visits old (Some e) new = Gives old (numbered e.0 e.1.now) new

  -- a step of the walk
  abbrev pub WalksOn : WalkView V → Option (ℕ × Bor V) → WalkView V → Type 0
  WalksOn old None new = HasEnded old new
  WalksOn old (Some e) new = Gives old (numbered e.0 e.1.now) new

  -- the entries that a walk has given
  abbrev pub given : List (ℕ × Bor V) → List (Numbered V)
  given items = map (λ e. numbered e.0 e.1.now) items

  -- no two of the entries have one number
  abbrev pub AreApart : List (Numbered V) → Type 0
  AreApart es = AllApart (λ k e. k == e.number) es

  -- however far the walk comes, no two of the entries that it has given have one number
  abbrev pub NeverTwice : WalkView V → Type 0
  NeverTwice w = (items : List (ℕ × Bor V)) (last : WalkView V) → Yields WalksOn w items last → AreApart (given items)

  -- however far the walk comes, what it has given are entries of what is known then
  abbrev pub GivesEntries : WalkView V → Type 0
  GivesEntries w = (items : List (ℕ × Bor V)) (last : WalkView V) → Yields WalksOn w items last
      → (e : Numbered V) → Contains (given items) e → IsEntry last.history e

  -- once the walk has ended, it has given each entry of the history
  abbrev pub GivesAllOf : History (Numbered V) → WalkView V → Type 0
  GivesAllOf log w = (items : List (ℕ × Bor V)) → Drains WalksOn w items
      → (e : Numbered V) → IsEntry log e → Contains (given items) e

  -- the walk begins with what is known
  pub record Begins (known : KnownView V) (w : WalkView V) : Type 0 where
    pub of : w.of ≡ known.of
    pub begun : w.begun ≡ known.history
    pub history : w.history ≡ known.history
    pub next : w.next ≡ 0

module _ {V : Type 0} (same : V → V → Bool) (hash : V → ℕ) where
  -- a walk between two calls: it is at the stage of its cursor, which has as many buckets as are left, or more
  pub record IsWalk {L A : Type 0} (g : SharedView) (stage : StageView V) (c : Cursor V L A) (start : History (Numbered V)) (left : ℕ) : Type 0 where
    pub at : IsCursor same hash g c
    pub shown : chain.Stands c.stages.log c.slot stage
    pub begun : IsPrefix start c.entries.log
    pub within : left ≤ stage.of.of.size
