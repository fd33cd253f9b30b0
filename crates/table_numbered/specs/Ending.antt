-- The end of a generation: its values, which are taken out of the slab, one bucket after another.
use Rattle.std.specs.Prelude.{◌≡◌, ℕ, zero, suc, ◌+◌, ◌-◌, ◌<◌, ◌⊎◌, ◌++◌, ◌==◌, Bool, true, false, List, [], ◌∷◌, length, map, Option, Some, None, MatchOption}
use Rattle.std.specs.List.Sorted.{IsPermutation}
use Rattle.logbook.specs.Pages.{Book}
use Rattle.table_terms.specs.Laws.{AllApart}
use Rattle.table_slab.specs.Endings.{EndView, IsLeft}
use Rattle.table_slab.specs.Slabs.{SlabView}
use Rattle.table_numbered.specs.Words.{numbered}
use Rattle.table_numbered.specs.declared.event.Numbered.{Numbered}
use Rattle.table_numbered.specs.declared.event.Stored.{Stored}
use Rattle.table_numbered.specs.declared.event.Stored.TheVariants.{Entry, Closed}
use Rattle.table_numbered.specs.History.{History, Stands, IsFull, size_of, stored_by, entries}
use Rattle.table_numbered.specs.Generations.{SetView, set_view, IsOf}

module _ {V : Type 0} where
  -- each number is left, but for those of the entries of the buckets before i
  abbrev pub AreLeft : ℕ → History (Numbered V) → EndView → Type 0
  AreLeft i log slab = (k : ℕ) → IsLeft slab k
      ⊎ ((q : ℕ) × (v : V) × (q < i) × Stands log q (numbered k v))

  -- the values of the entries, the first one first
  abbrev pub values_of : History (Numbered V) → List V
  values_of log = map (λ (e : Numbered V). e.value) (entries log)

  -- the value of the entry that was stored here, if one was, and else those that come later
  abbrev pub value_or : Bool → Option (Stored (Numbered V)) → List V → List V
  value_or true (Some (Entry e)) later = e.value ∷ []
  value_or true (Some Closed) later = later
  value_or true None later = later
  value_or false stored later = later

  -- the value of the entry in the bucket p, if it has one
  abbrev pub value_at : History (Numbered V) → ℕ → List V
  value_at [] p = []
  value_at (e ∷ es) p = value_or (e.place == p) (stored_by e) (value_at es p)

  -- the values of the entries in n buckets from the bucket p on, in the order of buckets
  abbrev pub values_from : History (Numbered V) → ℕ → ℕ → List V
  values_from log p zero = []
  values_from log p (suc n) = value_at log p ++ values_from log (p + 1) n

  -- the value of the bucket is the one that was taken out; nothing was taken out if it has none
  abbrev pub TakesAt : History (Numbered V) → ℕ → Option V → Type 0
  TakesAt log p result = MatchOption result (value_at log p ≡ []) (λ v. value_at log p ≡ v ∷ [])

  -- these are the values of the entries, each once, in some order, and no two are the same
  pub record AreValues (same : V → V → Bool) (log : History (Numbered V)) (vs : List V) : Type 0 where
    pub each : IsPermutation (values_of log) vs
    pub apart : AllApart same vs

-- which generation has ended, the history that it ended with, and the values that are left, in the order of buckets
pub record LeftView (V : Type 0) : Type 0 where
  pub of : SetView
  pub history : History (Numbered V)
  pub left : List V

module _ {V : Type 0} where
  abbrev pub left_view : Book → History (Numbered V) → SlabView → ℕ → LeftView V
  left_view b log slab i = record { of = set_view b (size_of log) slab; history = log; left = values_from log i (size_of log - i) }

  -- the same generation, with the same history
  abbrev pub IsSameEnd : LeftView V → LeftView V → Type 0
  IsSameEnd a b = (b.of ≡ a.of) × (b.history ≡ a.history)

  -- the values of the buckets before i are taken out, and the others are left
  pub record IsLeaving (same : V → V → Bool) (hash : V → ℕ) (b : Book) (names : List ℕ) (log : History (Numbered V)) (slab : EndView) (i count : ℕ) : Type 0 where
    pub of : IsOf same hash (set_view b (size_of log) slab.slab) b names log
    pub full : IsFull (size_of log) log
    pub rest : AreLeft i log slab
    pub counted : count ≡ length (values_from log i (size_of log - i))
