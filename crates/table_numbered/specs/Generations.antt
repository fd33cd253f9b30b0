-- A generation's words, what a thread knows of it, and what its calls answer.
use Rattle.std.specs.Prelude.{◌≡◌, ℕ, ◌<◌, ◌≤◌, ◌^◌, ◌⊎◌, ◌++◌, Bool, true, false, List, [], ◌∷◌, length, slice_index_or, Option, Some, None}
use Rattle.std.specs.Int.{IsPowerOfTwo}
use Rattle.std.specs.Borrow.{Bor}
use mathlib.Core.List.{IsPrefix}
use Rattle.logbook.specs.Pages.{Book, Named}
use Rattle.table_slab.specs.Held.{IsRightTo, IsReceiptFor}
use Rattle.table_slab.specs.Shelved.{slab_of}
use Rattle.table_slab.specs.Slabs.{SlabView}
use Rattle.table_slab.specs.declared.slab.Right.{Right}
use Rattle.table_numbered.specs.Words.{IsNumber, mark_of, numbered, alike, marked, of_value}
use Rattle.table_numbered.specs.Probing.{bucket_at}
use Rattle.table_numbered.specs.declared.event.Numbered.{Numbered}
use Rattle.table_numbered.specs.declared.event.Stored.TheVariants.{Entry, Closed}
use Rattle.table_numbered.specs.declared.probe.Meeting.{Meeting}
use Rattle.table_numbered.specs.declared.probe.Meeting.TheVariants as meeting
use Rattle.table_numbered.specs.declared.probe.Probed.{Probed}
use Rattle.table_numbered.specs.declared.probe.Probed.TheVariants as probed
use Rattle.table_numbered.specs.declared.place.Coming.{Coming}
use Rattle.table_numbered.specs.declared.place.Claim.{Claim}
use Rattle.table_numbered.specs.declared.place.Claim.TheVariants as claim
use Rattle.table_numbered.specs.declared.place.Placing.{Placing}
use Rattle.table_numbered.specs.declared.place.Placing.TheVariants as placing
use Rattle.table_numbered.specs.History.{event, History, Has, IsUntouched, HasSize, Stands, IsEntry, NonePasses, HasPassed, IsReached, IsWhole, Adds}

-- which generation it is, how many buckets it has, and the slab that its entries lie in
pub record SetView : Type 0 where
  pub book : Book
  pub size : ℕ
  pub slab : SlabView

abbrev pub set_view : Book → ℕ → SlabView → SetView
set_view b n s = record { book = b; size = n; slab = s }

-- which generation it is, and the history that it was made with
pub record GenerationView (V : Type 0) : Type 0 where
  pub of : SetView
  pub start : History (Numbered V)

abbrev pub generation_view : {V : Type 0} → Book → List Named → List ℕ → History (Numbered V)
    → GenerationView V
generation_view b ws names log = record { of = set_view b (length ws) (slab_of names); start = log }

-- a word that this book counts
abbrev pub IsWord : Book → Named → Type 0
IsWord b w = (w.tracked ≡ true) × (w.book ≡ b)

-- each word has its place as its key
abbrev pub AreWords : Book → List Named → Type 0
AreWords b ws = (k : ℕ) (d : Named) → k < length ws
    → IsWord b (slice_index_or ws k d) × ((slice_index_or ws k d).key ≡ k)

module _ {V : Type 0} (same : V → V → Bool) (hash : V → ℕ) where
  -- a history of this row of buckets, that was reached
  abbrev pub IsKnown : SetView → Book → List ℕ → History (Numbered V) → Type 0
  IsKnown t b names log = (b ≡ t.book) × (slab_of names ≡ t.slab) × HasSize t.size log
      × IsReached (alike same) (marked hash) log

  -- a history of this generation, that was reached, and in which nothing is due any more
  abbrev pub IsOf : SetView → Book → List ℕ → History (Numbered V) → Type 0
  IsOf t b names log = (b ≡ t.book) × (slab_of names ≡ t.slab) × HasSize t.size log
      × IsReached (alike same) (marked hash) log × IsWhole log

  -- a row of buckets between two calls
  pub record IsLaid (b : Book) (names : List ℕ) (log : History (Numbered V)) (ws : List Named) : Type 0 where
    pub words : AreWords b ws
    pub power : IsPowerOfTwo (length ws)
    pub few : length ws ≤ 2 ^ 32
    pub of : IsKnown (set_view b (length ws) (slab_of names)) b names log

module _ {V : Type 0} (test : V → Bool) where
  -- what a probe meets in the bucket p
  abbrev pub Meets : ℕ → History (Numbered V) → Meeting V → Type 0
  Meets p log (meeting.Found k e) = (test e.now ≡ true) × Stands log p (numbered k e.now)
  Meets p log meeting.Differs = (e : Numbered V) × Stands log p e × (test e.value ≡ false)
  Meets p log meeting.Vacant = IsUntouched log p
  Meets p log meeting.Closed = Has log p Closed

  -- one that is known, and that passes the test
  abbrev pub Passes : (Numbered V → Type 0) → ℕ → V → Type 0
  Passes IsKnown k v = (test v ≡ true) × IsKnown (numbered k v)

  -- what a look-up shows, by which entries its caller knows after
  abbrev pub Finds : (Numbered V → Type 0) → Option (ℕ × Bor V) → Type 0
  Finds IsKnown (Some e) = Passes IsKnown e.0 e.1.now
  Finds IsKnown None = NonePasses (of_value test) IsKnown

  -- what a probe finds, by which entries its caller knows after
  abbrev pub ProbeFinds : (Numbered V → Type 0) → Probed V → Type 0
  ProbeFinds IsKnown (probed.Found k e) = Passes IsKnown k e.now
  ProbeFinds IsKnown probed.Vacant = NonePasses (of_value test) IsKnown
  ProbeFinds IsKnown probed.Full = NonePasses (of_value test) IsKnown

  module _ (n mark : ℕ) (log : History (Numbered V)) where
    -- the probe has passed others' entries and come to a bucket that has nothing
    abbrev pub HasRoom : Type 0
    HasRoom = (k : ℕ) × (k < n) × HasPassed n log (of_value test) mark k
        × IsUntouched log (bucket_at n mark k)

    -- the probe has passed others' entries in all buckets, or in those before a closed one
    abbrev pub HasNoRoom : Type 0
    HasNoRoom = (k : ℕ) × HasPassed n log (of_value test) mark k
        × ((k ≡ n) ⊎ Has log (bucket_at n mark k) Closed)

    -- where a probe ends
    abbrev pub Ends : Probed V → Type 0
    Ends (probed.Found k e) = Unit {0}
    Ends probed.Vacant = HasRoom
    Ends probed.Full = HasNoRoom

module _ {V : Type 0} (same : V → V → Bool) (hash : V → ℕ) where
  -- v is to be placed, with the right to the empty slot k
  pub record IsComing {A : Type 0} (s : SlabView) (v : V) (k : ℕ) (c : Coming V A) : Type 0 where
    pub value : c.value ≡ v
    pub mark : c.mark ≡ mark_of (hash v)
    pub number : c.number ≡ k
    pub right : IsRightTo s k c.right
    pub empty : c.right.room.value ≡ None
    pub small : IsNumber k

  module _ (s : SlabView) (v : V) (k : ℕ) where
    -- v is placed in the bucket p, in the slot k, with its receipt; or it comes back, and the bucket has an entry that is the same,
    -- has another one, or is closed
    abbrev pub Claims : {A : Type 0} → ℕ → History (Numbered V) → History (Numbered V) → Claim V A → Type 0
    Claims p old new (claim.Placed e r) =
        (e.now ≡ v) × Adds (alike same) (marked hash) (Entry (numbered k v)) p old new × IsReceiptFor s k v r
    Claims p old new (claim.Found j e back) =
        IsComing s v k back × (same v e.now ≡ true) × Stands new p (numbered j e.now)
    Claims p old new (claim.Differs back) =
        IsComing s v k back × ((e : Numbered V) × Stands new p e × (same v e.value ≡ false))
    Claims p old new (claim.Closed back) = IsComing s v k back × Has new p Closed

  -- v is placed with the number k in a history that goes on from the known one, and nothing before it is the same
  pub record IsPlaced (k : ℕ) (v : V) (old new : History (Numbered V)) : Type 0 where
    pub place : ℕ
    pub before : History (Numbered V)
    pub known : IsPrefix old before
    pub none : NonePasses (of_value (same v)) (IsEntry before)
    pub then : new ≡ before ++ event place (Some (Entry (numbered k v))) ∷ []

  -- what comes back of an insert: the value, and the right to the empty slot
  abbrev pub ComesBack : {A : Type 0} → SlabView → V → ℕ → V → Right V A → Type 0
  ComesBack s v k back right = (back ≡ v) × IsRightTo s k right × (right.room.value ≡ None)

  -- what an insert answers, by the histories that its caller knew before and knows after
  abbrev pub Inserts : {A : Type 0} → V → ℕ → History (Numbered V) → History (Numbered V) → Placing V A → Type 0
  Inserts v k old new (placing.Placed e r) = (e.now ≡ v) × IsPlaced k v old new
  Inserts v k old new (placing.Found j e back right) = Passes (same v) (IsEntry new) j e.now
  Inserts v k old new (placing.Full back right) = NonePasses (of_value (same v)) (IsEntry new)

  -- what comes back of an insert: the receipt of what it placed, or else the value and the right
  abbrev pub GivesBack : {A : Type 0} → SlabView → V → ℕ → Placing V A → Type 0
  GivesBack s v k (placing.Placed e r) = IsReceiptFor s k v r
  GivesBack s v k (placing.Found j e back right) = ComesBack s v k back right
  GivesBack s v k (placing.Full back right) = ComesBack s v k back right

  -- an insert is Full only where no bucket is left
  abbrev pub IsFullBy : {A : Type 0} → ℕ → V → History (Numbered V) → Placing V A → Type 0
  IsFullBy n v log (placing.Placed e r) = Unit {0}
  IsFullBy n v log (placing.Found j e back right) = Unit {0}
  IsFullBy n v log (placing.Full back right) = HasNoRoom (same v) n (mark_of (hash v)) log
