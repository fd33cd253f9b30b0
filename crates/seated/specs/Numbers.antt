-- What the calls of a number table promise of the seats that they are passed.
use Rattle.std.specs.Prelude.{◌≡◌, ℕ, ◌<◌, List, [], ◌∷◌, ◌++◌, length, slice_index, All, Contains}
use Rattle.seated.specs.declared.seat.Seat.{Seat}
use Rattle.seated.specs.declared.seat.NumberAnswer.{NumberAnswer}
use Rattle.seated.specs.declared.seat.NumberAnswer.TheVariants.{Placed, Found, Full}

-- the pairs of a bucket and a number that the seat saw there, placed there or learnt of from another seat
abbrev pub known_pairs : Seat → List (ℕ × ℕ)
known_pairs s = s.inner.me.0.known

-- the numbers that the seat placed, and those of the seats that were joined to it
abbrev pub own_numbers : Seat → List ℕ
own_numbers s = s.inner.me.0.own

-- the number is in a known pair
abbrev pub Knows : List (ℕ × ℕ) → ℕ → Type 0
Knows pairs x = (p : ℕ) × Contains pairs (p, x)

-- each of these numbers is in a known pair
unfoldable pub KnowsEach : List (ℕ × ℕ) → List ℕ → Type 0
KnowsEach pairs numbers = All (Knows pairs) numbers

-- of each of the n buckets it is known that it holds a number, which isn't 0
abbrev pub KnowsEachBucket : ℕ → List (ℕ × ℕ) → Type 0
KnowsEachBucket n pairs = (p : ℕ) → p < n → (x : ℕ) × (0 < x) × Contains pairs (p, x)

-- each pair of the first is in the second
abbrev pub Within : List (ℕ × ℕ) → List (ℕ × ℕ) → Type 0
Within ps qs = (p x : ℕ) → Contains ps (p, x) → Contains qs (p, x)

-- no number is in both
abbrev pub Disjoint : List ℕ → List ℕ → Type 0
Disjoint xs ys = (x : ℕ) → Contains xs x → ¬ Contains ys x

-- each pair's bucket holds its number
abbrev pub StandIn : List (ℕ × ℕ) → List ℕ → Type 0
StandIn pairs words = (p x : ℕ) → Contains pairs (p, x) → (p < length words) × (slice_index words p ≡ x)

-- what an insert of x into n buckets tells: from the pairs known and the numbers owned before, the answer and those after
abbrev pub Inserts : ℕ → ℕ → List (ℕ × ℕ) → List ℕ → NumberAnswer → List (ℕ × ℕ) → List ℕ → Type 0
Inserts n x known own Placed known' own' = (own' ≡ own ++ x ∷ []) × Knows known' x × ¬ Knows known x
Inserts n x known own Found known' own' = (own' ≡ own) × Knows known' x
Inserts n x known own Full known' own' = (own' ≡ own) × KnowsEachBucket n known' × ¬ Knows known' x
