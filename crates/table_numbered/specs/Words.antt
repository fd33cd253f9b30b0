-- What a bucket's word says.
use Rattle.std.specs.Prelude.{ℕ, ◌+◌, ◌*◌, ◌/◌, ◌%◌, ◌^◌, ◌<◌, Bool}
use Rattle.table_numbered.specs.declared.event.Stored.{Stored}
use Rattle.table_numbered.specs.declared.event.Stored.TheVariants.{Entry, Closed}
use Rattle.table_numbered.specs.declared.event.Numbered.{Numbered}

-- an odd number of 64 bits, whose multiples spread over all of them
abbrev pub spreading : ℕ
spreading = 0xD1342543DE82EF95

-- the upper half of a hash that is spread over 64 bits
unfoldable pub mark_of : ℕ → ℕ
mark_of h = h * spreading % 2 ^ 64 / 2 ^ 32

abbrev pub numbered : {V : Type 0} → ℕ → V → Numbered V
numbered k v = record { number = k; value = v }

-- entries are the same where their values are
abbrev pub alike : {V : Type 0} → (V → V → Bool) → Numbered V → Numbered V → Bool
alike same a b = same a.value b.value

-- the mark of an entry's value
abbrev pub marked : {V : Type 0} → (V → ℕ) → Numbered V → ℕ
marked hash e = mark_of (hash e.value)

-- a test of an entry's value
abbrev pub of_value : {V : Type 0} → (V → Bool) → Numbered V → Bool
of_value test e = test e.value

-- a number that a word has room for
abbrev pub IsNumber : ℕ → Type 0
IsNumber k = k + 2 < 2 ^ 32

-- 0 is empty, 1 is closed; an entry has its mark, and its number
abbrev pub word_of : {V : Type 0} → (Numbered V → ℕ) → Stored (Numbered V) → ℕ
word_of mark (Entry e) = mark e * 2 ^ 32 + (e.number + 2)
word_of mark Closed = 1
