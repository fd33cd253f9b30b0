-- A number table as contracts see it.
use Rattle.std.specs.Prelude.{◌≡◌, ℕ, []}
use Rattle.seated.specs.declared.seat.Seat.{Seat}
use Rattle.seated.specs.declared.table.NumberTable.{NumberTable}
use Rattle.seated.specs.Numbers.{known_pairs, own_numbers, KnowsEach}

-- how many words the table has
abbrev pub word_count : {A : Type 0} → NumberTable A → ℕ
word_count t = t.table.shared.table_id.words

-- the seat came from this table, and it is not in the middle of a meeting
abbrev pub IsAtTable : {A : Type 0} → NumberTable A → Seat → Type 0
IsAtTable t s =
    (s.inner.table_id ≡ t.table.shared.table_id)
    × (s.inner.me.0.size ≡ t.table.shared.table_id.words)
    × (s.inner.me.1 ≡ [])
    × (s.inner.me.0.giver_own ≡ [])
    × (s.inner.me.0.giver_turn ≡ 0)

-- the seat is at this table, and knows each number that it owns
abbrev pub IsSeatOf : {A : Type 0} → NumberTable A → Seat → Type 0
IsSeatOf t s = IsAtTable t s × KnowsEach (known_pairs s) (own_numbers s)
