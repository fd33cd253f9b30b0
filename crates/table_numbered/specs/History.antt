-- The history of a generation of buckets: how many there are, and then what was stored in which of them.
use Rattle.std.specs.Prelude.{◌≡◌, ◌≢◌, ℕ, ◌<◌, ◌⊎◌, ◌++◌, ◌==◌, Bool, true, false, List, [], ◌∷◌, length, Contains, Option, Some, None, MatchBool}
use mathlib.Core.List.{IsPrefix}
use Rattle.logbook.specs.Pages.{Cell, cell, Step, View}
use Rattle.table_terms.specs.Laws.{AllApart}
use Rattle.table_numbered.specs.Probing.{bucket_at}
use Rattle.table_numbered.specs.Words.{IsNumber, word_of, numbered}
use Rattle.table_numbered.specs.declared.event.Event.{Event}
use Rattle.table_numbered.specs.declared.event.Listed.{Listed}
use Rattle.table_numbered.specs.declared.event.Stored.{Stored}
use Rattle.table_numbered.specs.declared.event.Stored.TheVariants.{Entry, Closed}
use Rattle.table_numbered.specs.declared.event.Numbered.{Numbered}

module _ {S : Type 0} where
  abbrev pub listed : List S → Listed S
  listed ss = record { marker = record {}; items = ss }

  abbrev pub event : ℕ → Option S → Event S
  event place value = record { place = place; value = value; due = listed [] }

  -- the first event of a history of n buckets
  abbrev pub opening : ℕ → List S → Event S
  opening n due = record { place = n; value = None; due = listed due }

  -- what is stored before anything else
  abbrev pub due_of : List (Event S) → List S
  due_of [] = []
  due_of (e ∷ es) = e.due.items

  -- s was stored in the bucket p
  abbrev pub Has : List (Event S) → ℕ → S → Type 0
  Has log p s = Contains log (event p (Some s))

  -- nothing was stored in the bucket
  abbrev pub IsUntouched : List (Event S) → ℕ → Type 0
  IsUntouched log p = (s : S) → Has log p s → ⊥

  -- the history begins with the number of buckets
  abbrev pub HasSize : ℕ → List (Event S) → Type 0
  HasSize n log = IsPrefix (opening n (due_of log) ∷ []) log

  -- the number of buckets that the history begins with
  abbrev pub size_of : List (Event S) → ℕ
  size_of [] = 0
  size_of (e ∷ es) = e.place

  -- the bucket p is one of those whose history this is
  abbrev pub IsInside : ℕ → List (Event S) → Type 0
  IsInside p log = (n : ℕ) × HasSize n log × (p < n)

  -- what holds of any row of buckets, each of which is set once, and of its history
  pub record IsRow (cells : List Cell) (log : List (Event S)) : Type 0 where
    pub home : (p : ℕ) → p < length cells → (cell cells p).1 ≡ true
    pub inside : (p : ℕ) (s : S) → Has log p s → p < length cells
    -- nothing was stored in a bucket that is empty
    pub free : (p : ℕ) → (cell cells p).0 ≡ 0 → IsUntouched log p
    -- a bucket has one thing for good
    pub once : (p : ℕ) (s t : S) → Has log p s → Has log p t → s ≡ t

  -- each of n buckets has something, which it has for good
  abbrev pub IsFull : ℕ → List (Event S) → Type 0
  IsFull n log = (p : ℕ) → p < n → (s : S) × Has log p s

  -- an update that publishes runs where its entry is added, or else it gives back what it was made of
  abbrev pub Moved : Event S → List (Event S) → List (Event S) → ℕ → Type 0
  Moved ask old new answer =
      ((answer ≡ 1) × (new ≡ old ++ ask ∷ [])) ⊎ ((answer ≡ 0) × (new ≡ old))

abbrev pub History : Type 0 → Type 0
History E = List (Event (Stored E))

module _ {E : Type 0} where
  -- e was placed in the bucket p
  abbrev pub Stands : History E → ℕ → E → Type 0
  Stands log p e = Has log p (Entry e)

  -- no entry was placed in the bucket
  abbrev pub IsFree : History E → ℕ → Type 0
  IsFree log p = (e : E) → Stands log p e → ⊥

  -- what an event says was stored: an event with which something is due says nothing
  abbrev pub if_none : List (Stored E) → Option (Stored E) → Option (Stored E)
  if_none [] value = value
  if_none (s ∷ ss) value = None

  abbrev pub stored_by : Event (Stored E) → Option (Stored E)
  stored_by e = if_none e.due.items e.value

  -- the entries that were placed, the first one first
  abbrev pub stored_then : Option (Stored E) → List E → List E
  stored_then None es = es
  stored_then (Some (Entry e)) es = e ∷ es
  stored_then (Some Closed) es = es

  abbrev pub entries : History E → List E
  entries [] = []
  entries (e ∷ es) = stored_then (stored_by e) (entries es)

  -- e was placed in some bucket
  abbrev pub IsEntry : History E → E → Type 0
  IsEntry log e = (p : ℕ) × Stands log p e

  -- s is due, and so it is an entry
  abbrev pub IsDue : List (Stored E) → Stored E → Type 0
  IsDue due (Entry e) = Contains due (Entry e)
  IsDue due Closed = ⊥

  -- each entry that is due was placed
  abbrev pub HasAll : List (Stored E) → History E → Type 0
  HasAll due log = (e : E) → Contains due (Entry e) → IsEntry log e

  abbrev pub IsWhole : History E → Type 0
  IsWhole log = HasAll (due_of log) log

  -- s may be stored next: it is due, or all that is due was placed
  abbrev pub MayStore : History E → Stored E → Type 0
  MayStore log s = IsDue (due_of log) s ⊎ IsWhole log

  -- of the entries that are known, none passes the test
  abbrev pub NonePasses : (E → Bool) → (E → Type 0) → Type 0
  NonePasses test IsKnown = (e : E) → IsKnown e → test e ≡ false

  -- each of the first k buckets of a probe for this mark has an entry that does not pass the test
  abbrev pub HasPassed : ℕ → History E → (E → Bool) → ℕ → ℕ → Type 0
  HasPassed n log test mark k = (j : ℕ) → j < k
      → (e : E) × Stands log (bucket_at n mark j) e × (test e ≡ false)

  module _ (same : E → E → Bool) (mark : E → ℕ) where
    -- a probe for the entry comes to the bucket p, past buckets that have others
    abbrev pub Reaches : ℕ → History E → E → ℕ → Type 0
    Reaches n log e p = (k : ℕ) × (k < n) × (bucket_at n (mark e) k ≡ p)
        × HasPassed n log (same e) (mark e) k

-- a number has one value for good
abbrev pub OneValue : {V : Type 0} → History (Numbered V) → Type 0
OneValue {V} log = (p q k : ℕ) (v w : V) → Stands log p (numbered k v) → Stands log q (numbered k w)
    → v ≡ w

module _ {V : Type 0} (same : Numbered V → Numbered V → Bool) (mark : Numbered V → ℕ) where
  -- where an entry may be placed: where a probe for it comes to; any bucket may be closed
  abbrev pub Fits : ℕ → History (Numbered V) → Stored (Numbered V) → ℕ → Type 0
  Fits n log (Entry e) p = IsNumber e.number × Reaches same mark n log e p × MayStore log (Entry e)
  Fits n log Closed p = MayStore log Closed

  -- what holds of the buckets and of the history between any two steps of any threads
  pub record IsKept (cells : List Cell) (log : History (Numbered V)) : Type 0 where
    pub size : HasSize (length cells) log
    pub row : IsRow cells log
    -- a bucket that is not empty says what was stored
    pub says : (p : ℕ) → p < length cells → (cell cells p).0 ≢ 0
        → (s : Stored (Numbered V)) × Has log p s × ((cell cells p).0 ≡ word_of mark s)
    pub number : (p : ℕ) (e : Numbered V) → Stands log p e → IsNumber e.number
    pub reach : (p : ℕ) (e : Numbered V) → Stands log p e → Reaches same mark (length cells) log e p
    -- no two entries are the same
    pub apart : AllApart same (entries log)
    -- what was stored was due, or was stored behind all that was
    pub due : (before : History (Numbered V)) (p : ℕ) (s : Stored (Numbered V)) → IsPrefix (before ++ event p (Some s) ∷ []) log
        → IsDue (due_of log) s ⊎ HasAll (due_of log) before

  -- a history that was reached
  abbrev pub IsReached : History (Numbered V) → Type 0
  IsReached log = (cells : List Cell) × IsKept cells log

  -- no two entries of a history are the same
  pub reached_apart : (log : History (Numbered V)) → IsReached log → AllApart same (entries log)
  reached_apart log reached = reached.1.apart

  -- what a bucket's word says of a history
  abbrev pub Says : ℕ → ℕ → History (Numbered V) → Type 0
  Says p word log = ((word ≡ 0) → IsUntouched log p)
      × ((word ≢ 0) → (s : Stored (Numbered V)) × Has log p s × (word ≡ word_of mark s))

  -- an event is put behind all that was known, of a bucket that had nothing
  abbrev pub AddsEvent : Event (Stored (Numbered V)) → ℕ → History (Numbered V) → History (Numbered V) → Type 0
  AddsEvent e p old new = (mid : History (Numbered V)) × IsPrefix old mid
      × (new ≡ mid ++ e ∷ []) × IsUntouched mid p × IsReached mid × IsReached new

  -- s is stored behind all that was known, in a bucket that had nothing
  abbrev pub Adds : Stored (Numbered V) → ℕ → History (Numbered V) → History (Numbered V) → Type 0
  Adds s p old new = AddsEvent (event p (Some s)) p old new

  -- what a step that looks at a bucket tells
  abbrev pub Looks : Step (Event (Stored (Numbered V))) → View (Event (Stored (Numbered V))) ℕ → ℕ
      → View (Event (Stored (Numbered V))) ℕ → Type 0
  Looks s v found w = Says s.key found w.0 × IsReached w.0

  -- what a step that sets a bucket, if it is empty, tells
  abbrev pub Publishes : Step (Event (Stored (Numbered V))) → View (Event (Stored (Numbered V))) ℕ → ℕ
      → View (Event (Stored (Numbered V))) ℕ → Type 0
  Publishes s v found w = MatchBool (found == 0)
      (AddsEvent s.ask s.key v.0 w.0 × (w.1.1 ≡ Some 1))
      (Says s.key found w.0 × IsReached w.0 × (w.1.1 ≡ Some 0))
