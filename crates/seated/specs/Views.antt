-- What a seat knows, and what each kind of step makes of it.
use Rattle.std.specs.Prelude.{ℕ, ◌+◌, List, [], ◌∷◌, ◌++◌, ◌==◌, max, count_by, sum_by}
use Rattle.seated.specs.declared.seat.View.{View}

-- how often the number stands in the list
abbrev pub times : ℕ → List ℕ → ℕ
times x numbers = count_by (λ y. y == x) numbers

-- how often the number was placed, over the views of all seats
abbrev pub placings : ℕ → List View → ℕ
placings x views = sum_by (λ v. times x v.own) views

-- at a table of this size, nothing is known and nothing was placed
abbrev pub fresh_view : ℕ → View
fresh_view size = record { size = size; known = []; own = []; turn = 0; giver_own = []; giver_turn = 0 }

-- what a join leaves of the seat that it takes
abbrev pub spent_view : View
spent_view = fresh_view 0

-- at the same table, nothing is known and nothing was placed
abbrev pub newcomer_of : View → View
newcomer_of v = fresh_view v.size

-- the number was seen in the bucket
abbrev pub with_pair : View → ℕ → ℕ → View
with_pair v bucket x = record v { known = v.known ++ (bucket, x) ∷ [] }

-- the number was placed in the bucket
abbrev pub with_number : View → ℕ → ℕ → View
with_number v bucket x = record v { known = v.known ++ (bucket, x) ∷ []; own = v.own ++ x ∷ [] }

abbrev pub unchanged : View → View
unchanged v = v

-- the turn is one higher
abbrev pub with_next_turn : View → View
with_next_turn v = record v { turn = v.turn + 1 }

-- nothing is said of a giver any more
abbrev pub without_gift : View → View
without_gift v = record v { giver_own = []; giver_turn = 0 }

-- a note for another seat: what is known, and the turn
abbrev pub note_of : View → View
note_of v = record v { own = []; giver_own = []; giver_turn = 0 }

-- a gift for another seat: what is known, and what its giver had placed at which turn
abbrev pub gift_of : View → View
gift_of v = record v { own = []; turn = 0; giver_own = v.own; giver_turn = v.turn }

-- what either knows and what either placed, the higher turn, and what the second says of a giver
abbrev pub join_of : View → View → View
join_of v w = record w { size = v.size; known = v.known ++ w.known; own = v.own ++ w.own; turn = max v.turn w.turn }
