-- What one step on a bucket tells the seat that takes it.
use Rattle.std.specs.Prelude.{◌≡◌, ◌≢◌, ℕ, ◌+◌, ◌<◌, ◌≤◌, List, slice_index, Contains}
use Rattle.atomic_table.specs.Table.{Step, Me}
use Rattle.seated.specs.declared.seat.View.{View}
use Rattle.seated.specs.Views.{times, with_pair, with_number}
use Rattle.table_terms.specs.Probes.{bucket_at}
use Rattle.seated.specs.Rule.{IsLaidOut, Fits}
use Rattle.seated.specs.Numbers.{Within}

-- a seat's view, and the slots that it holds: there are none in a number table
abbrev pub SeatState : Type 0
SeatState = Me (Unit {0}) View

-- at the step the bucket p held r, among words that kept the rule and in which what the seat knew stood
pub record Shows (v : View) (p r : ℕ) : Type 0 where
  pub words : List ℕ
  pub laid_out : IsLaidOut v.size words
  pub fits : Fits v.size words v
  pub here : slice_index words p ≡ r
  pub once : (x : ℕ) → times x v.own ≤ 1
  -- a seat whose turn is below its giver's is not the giver, so it placed none of the giver's numbers
  pub apart : v.turn < v.giver_turn → (x : ℕ) → times x v.giver_own + times x v.own ≤ 1

-- the bucket is read: a number found there is known from now on, and then the view changes by g
abbrev pub Reads : (View → View) → Step (Unit {0}) → SeatState → ℕ → SeatState → Type 0
Reads g st me r me' =
    Shows me.0 st.word r
    × (r ≡ 0 → me' ≡ (g me.0, me.1))
    × (r ≢ 0 → me' ≡ (g (with_pair me.0 st.word r), me.1))

-- the number is placed where the bucket is empty, and else the number found there is known from now on
abbrev pub Claims : Step (Unit {0}) → SeatState → ℕ → SeatState → Type 0
Claims st me r me' =
    Shows me.0 st.word r
    × (r ≡ 0 → me' ≡ (with_number me.0 st.word st.second, me.1))
    × (r ≢ 0 → me' ≡ (with_pair me.0 st.word r, me.1))

-- each of the first k buckets of a probe for x is known to hold another number
abbrev pub HasPassed : ℕ → ℕ → List (ℕ × ℕ) → ℕ → Type 0
HasPassed n x known k = (j : ℕ) → j < k → (y : ℕ) × (y ≢ x) × Contains known (bucket_at n x j, y)

-- a probe for x has got to the bucket p
abbrev pub IsNext : View → ℕ → ℕ → Type 0
IsNext v x p = (k : ℕ) × (k < v.size) × (bucket_at v.size x k ≡ p) × HasPassed v.size x v.known k

-- buckets were read, and nothing changed but what is known
pub record Learns (v w : View) : Type 0 where
  pub size : w.size ≡ v.size
  pub known : Within v.known w.known
  pub own : w.own ≡ v.own
  pub turn : w.turn ≡ v.turn
  pub giver_own : w.giver_own ≡ v.giver_own
  pub giver_turn : w.giver_turn ≡ v.giver_turn
