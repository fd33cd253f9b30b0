-- The history of a chain: how many slots there are, and then what was stored in which slot, and under which number.
use Rattle.std.specs.Prelude.{◌≡◌, ◌≢◌, ℕ, suc, ◌+◌, ◌<◌, ◌⊎◌, ◌++◌, ◌==◌, true, List, [], ◌∷◌, length, Contains, Option, Some, None, MatchBool}
use mathlib.Core.List.{IsPrefix}
use Rattle.logbook.specs.Pages.{Cell, cell, Step, View}
use Rattle.table_chain.specs.declared.event.Event.{Event}
use Rattle.table_chain.specs.declared.event.Stored.{Stored}
use Rattle.table_chain.specs.declared.event.Stored.TheVariants.{Shown, End}

abbrev pub History : Type 0 → Type 0
History G = List (Event G)

module _ {G : Type 0} where
  abbrev pub event : ℕ → ℕ → Option (Stored G) → Event G
  event slot number value = record { slot = slot; number = number; value = value }

  -- s was stored in the slot p, under the number k
  abbrev pub Has : History G → ℕ → ℕ → Stored G → Type 0
  Has log p k s = Contains log (event p k (Some s))

  -- the value g stands in the slot p
  abbrev pub Stands : History G → ℕ → G → Type 0
  Stands log p g = (k : ℕ) × Has log p k (Shown g)

  -- no two slots have one number
  abbrev pub NumbersDiffer : History G → Type 0
  NumbersDiffer log = (p q k : ℕ) (f g : G) → Has log p k (Shown f) → Has log q k (Shown g) → p ≡ q

  -- nothing was stored in the slot
  abbrev pub IsUntouched : History G → ℕ → Type 0
  IsUntouched log p = (k : ℕ) (s : Stored G) → Has log p k s → ⊥

  -- the history begins with how many slots there are
  abbrev pub HasSize : ℕ → History G → Type 0
  HasSize n log = IsPrefix (event n 0 None ∷ []) log

  abbrev pub slots_of : History G → ℕ
  slots_of [] = 0
  slots_of (e ∷ es) = e.slot

  -- the slot p is one of the chain whose history this is
  abbrev pub IsInside : ℕ → History G → Type 0
  IsInside p log = (n : ℕ) × HasSize n log × (p < n)

  -- an update runs where its entry is added, or else it gives back what it was made of
  abbrev pub Moved : Event G → History G → History G → ℕ → Type 0
  Moved ask old new answer = ((answer ≡ 1) × (new ≡ old ++ ask ∷ [])) ⊎ ((answer ≡ 0) × (new ≡ old))

  -- the word of a slot that has s under the number k; that of an empty one is 0
  abbrev pub word_of : Stored G → ℕ → ℕ
  word_of (Shown g) k = k + 2
  word_of End k = 1

  module _ (Begins : G → Type 0) (Follows : G → G → Type 0) where
    -- g may be shown in the slot p: first, if it may begin, and else behind a value that it follows
    pub record MayStand (log : History G) (p : ℕ) (g : G) : Type 0 where
      pub first : p ≡ 0 → Begins g
      pub behind : (q : ℕ) → p ≡ suc q → (f : G) × Stands log q f × Follows f g

    -- s may be stored in the slot p
    abbrev pub Fits : History G → ℕ → Stored G → Type 0
    Fits log p s = (g : G) → s ≡ Shown g → MayStand log p g

    pub record IsKept (cells : List Cell) (log : History G) : Type 0 where
      pub size : HasSize (length cells) log
      pub home : (p : ℕ) → p < length cells → (cell cells p).1 ≡ true
      pub inside : (p k : ℕ) (s : Stored G) → Has log p k s → p < length cells
      -- nothing was stored in a slot that is empty
      pub free : (p : ℕ) → (cell cells p).0 ≡ 0 → IsUntouched log p
      -- a slot has one thing, under one number, for good
      pub once : (p k j : ℕ) (s t : Stored G) → Has log p k s → Has log p j t → (k ≡ j) × (s ≡ t)
      -- a slot that is not empty says what was stored
      pub set : (p : ℕ) → p < length cells → (cell cells p).0 ≢ 0
          → (k : ℕ) × (s : Stored G) × Has log p k s
          × ((cell cells p).0 ≡ word_of s k)
      -- the first value begins the chain, and each later one follows the one before it
      pub joined : (p : ℕ) (g : G) → Stands log p g → MayStand log p g

    abbrev pub IsReached : History G → Type 0
    IsReached log = (cells : List Cell) × IsKept cells log

    -- what a slot's word n says of a history
    abbrev pub Told : ℕ → ℕ → History G → Type 0
    Told p n log = ((n ≡ 0) → IsUntouched log p)
        × ((n ≢ 0) → (k : ℕ) × (s : Stored G) × Has log p k s × (n ≡ word_of s k))

    abbrev pub Looks : Step (Event G) → View (Event G) ℕ → ℕ → View (Event G) ℕ → Type 0
    Looks s v found w = Told s.key found w.0 × IsReached w.0

    -- the entry is added behind all that was known, for a slot that had nothing
    abbrev pub Adds : Event G → ℕ → History G → History G → Type 0
    Adds e p old new = (mid : History G) × IsPrefix old mid × (new ≡ mid ++ e ∷ [])
        × IsUntouched mid p × IsReached mid × IsReached new

    abbrev pub Stores : Step (Event G) → View (Event G) ℕ → ℕ → View (Event G) ℕ → Type 0
    Stores s v found w = MatchBool (found == 0)
        (Adds s.ask s.key v.0 w.0 × (w.1.1 ≡ Some 1))
        (Told s.key found w.0 × IsReached w.0 × (w.1.1 ≡ Some 0))
