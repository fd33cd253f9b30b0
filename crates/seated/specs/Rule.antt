-- The rule of a number table: what holds of its words and of the views of all its seats between any two steps of any threads.
-- A word is a bucket, and an empty bucket is 0. A seat that was dropped keeps its view, so the rule goes on to hold of it.
use Rattle.std.specs.Prelude.{◌≡◌, ℕ, ◌<◌, ◌≤◌, List, length, slice_index, Contains}
use mathlib.Core.Option.{some}
use lib.ListN.{get_elem?}
use Rattle.atomic_table.specs.Table.{State}
use Rattle.seated.specs.declared.seat.View.{View}
use Rattle.seated.specs.Views.{times, placings}
pub use Rattle.table_terms.specs.Probes.{bucket_at}

-- the numbers lie on the ways of their probes, and no two are the same
pub record IsLaidOut (n : ℕ) (words : List ℕ) : Type 0 where
  pub count : length words ≡ n
  -- a probe for a number that is set reaches it past set buckets alone
  pub reach : (p : ℕ) → p < n → 0 < slice_index words p
      → (k : ℕ) × (k < n) × (bucket_at n (slice_index words p) k ≡ p)
      × ((j : ℕ) → j < k → 0 < slice_index words (bucket_at n (slice_index words p) j))
  pub once : (p q : ℕ) → p < n → q < n → 0 < slice_index words p → slice_index words p ≡ slice_index words q → p ≡ q

-- what a seat knows is so
pub record Fits (n : ℕ) (words : List ℕ) (v : View) : Type 0 where
  -- each known pair stands in the words
  pub known : (p x : ℕ) → Contains v.known (p, x) → (p < n) × (0 < x) × (slice_index words p ≡ x)
  -- each number that the seat placed is in a pair that it knows
  pub own : (x : ℕ) → 0 < times x v.own → (p : ℕ) × Contains v.known (p, x)

-- what a gift says of its giver is still so of some seat: it placed these numbers, and its turn is no lower
abbrev pub IsBacked : List View → View → Type 0
IsBacked views v = (i : ℕ) × (w : View) × (get_elem? views i ≡ some w)
    × (v.giver_turn ≤ w.turn) × ((x : ℕ) → times x v.giver_own ≤ times x w.own)

pub record RuleHolds (n : ℕ) (s : State (Unit {0}) View) : Type 0 where
  pub laid_out : IsLaidOut n s.words
  pub fits : (i : ℕ) (v : View) → get_elem? s.views i ≡ some v → Fits n s.words v
  -- no number was placed twice, by one seat or by two
  pub once : (x : ℕ) → placings x s.views ≤ 1
  -- each number that is set was placed by a seat: so no set bucket changes, since that seat knows the bucket and loses no pair
  pub placed : (p : ℕ) → p < n → 0 < slice_index s.words p → placings (slice_index s.words p) s.views ≡ 1
  pub backed : (i : ℕ) (v : View) → get_elem? s.views i ≡ some v → IsBacked s.views v
