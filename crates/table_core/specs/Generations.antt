-- The table: its generations and their buckets.
use Rattle.std.specs.Prelude.{ℕ, suc, zero, ◌+◌, ◌-◌, ◌*◌, ◌==◌, nat_lt}
use Rattle.std.specs.Prelude.{if◌then◌else◌, Bool, Option, Some, None, List, [], ◌∷◌, length}
use Rattle.std.specs.Prelude.{slice_set}
use Rattle.std.specs.List.{find, slice_get}
use Rattle.table_terms.specs.Probes.{bucket_at}
use Rattle.table_core.specs.declared.generation.Entry.{Entry}

-- a generation: its capacity, its size, and its set buckets in order of their indices
pub record Gen : Type 0 where
  pub capacity : ℕ
  pub size : ℕ
  pub entries : List Entry

-- a generation being built, and how many entries of the current one were copied
pub record Build : Type 0 where
  pub gen : Gen
  pub copied : ℕ

-- the capacity of the first generation, the generations from 0 on, and the one being built
pub record Table : Type 0 where
  pub first : ℕ
  pub gens : List Gen
  pub building : Option Build

-- Buckets

-- the bucket of an index
abbrev pub bucket : List Entry → ℕ → Option Entry
bucket es i = find (λ e. e.index == i) es

-- an entry more, in order of the indices
abbrev pub put_in : Entry → List Entry → List Entry
put_in e [] = e ∷ []
put_in e (x ∷ xs) = if nat_lt e.index x.index then e ∷ x ∷ xs else x ∷ put_in e xs

-- one bucket where this one is empty, else another
abbrev pub if_empty : Option Entry → ℕ → ℕ → ℕ
if_empty None here further = here
if_empty (Some e) here further = further

-- the first empty bucket of those d, d + 1, .. on from a hash's own; no more than so many can be
-- set
abbrev pub empty_from : ℕ → List Entry → ℕ → ℕ → ℕ → ℕ
empty_from capacity es hash d zero = bucket_at capacity hash d
empty_from capacity es hash d (suc set) =
    if_empty (bucket es (bucket_at capacity hash d)) (bucket_at capacity hash d)
    (empty_from capacity es hash (suc d) set)

-- the first empty bucket from a hash's own on
abbrev pub first_empty : Gen → ℕ → ℕ
first_empty g hash = empty_from g.capacity g.entries hash 0 (length g.entries)

-- Generations

-- an empty generation of this capacity
abbrev pub fresh : ℕ → Gen
fresh capacity = record { capacity = capacity; size = 0; entries = [] }

-- a generation with one entry more
abbrev pub fill : Gen → Entry → Gen
fill g e = record g { entries = put_in e g.entries }

-- a generation whose size is one more
abbrev pub count : Gen → Gen
count g = record g { size = g.size + 1 }

-- an entry copied to a bucket, and counted at once
abbrev pub copy_in : Gen → Entry → ℕ → Gen
copy_in g e index = count (fill g (record e { index = index }))

-- the last of some generations
abbrev pub last_of : List Gen → Option Gen
last_of gens = slice_get gens (length gens - 1)

-- the current generation
abbrev pub current : Table → Option Gen
current t = last_of t.gens

-- the generation of a number
abbrev pub gen_of : List Gen → Option ℕ → Option Gen
gen_of gens None = None
gen_of gens (Some k) = slice_get gens k

-- the bucket of an index in a generation, if there is that generation
abbrev pub bucket_in : Option Gen → ℕ → Option Entry
bucket_in None i = None
bucket_in (Some g) i = bucket g.entries i

-- whether this generation is the current one, or there is still none
abbrev pub is_current : List Gen → Option ℕ → Bool
is_current gens None = length gens == 0
is_current gens (Some k) = k + 1 == length gens

-- the generation of a number changed, if there is one
abbrev pub change_at : List Gen → ℕ → Option Gen → (Gen → Gen) → List Gen
change_at gens k None f = gens
change_at gens k (Some g) f = slice_set gens k (f g)

-- one generation changed
abbrev pub change : List Gen → Option ℕ → (Gen → Gen) → List Gen
change gens None f = gens
change gens (Some k) f = change_at gens k (slice_get gens k) f

-- Growth

-- the first capacity, or twice that of the generation before
abbrev pub next_capacity : ℕ → Option Gen → ℕ
next_capacity first None = first
next_capacity first (Some g) = 2 * g.capacity

-- the entries of a generation, if there is one
abbrev pub entries_of : Option Gen → List Entry
entries_of None = []
entries_of (Some g) = g.entries

-- the first of these entries that is not copied yet
abbrev pub entry_left : List Entry → Option Build → Option Entry
entry_left es None = None
entry_left es (Some b) = slice_get es b.copied

-- the first entry of the current generation that isn't copied
abbrev pub next_copied : Table → Option Entry
next_copied t = entry_left (entries_of (current t)) t.building

-- this entry copied to the first empty bucket from this hash's own on
abbrev pub copy_on : Option Build → Entry → ℕ → Option Build
copy_on None e hash = None
copy_on (Some b) e hash =
    Some (record { gen = copy_in b.gen e (first_empty b.gen hash); copied = b.copied + 1 })

-- the generation that was built, if there is one
abbrev pub built : Option Build → List Gen
built None = []
built (Some b) = b.gen ∷ []
