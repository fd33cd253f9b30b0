-- A table held alone, as its callers see it.
use Rattle.std.specs.Prelude.{◌≡◌, ◌⊎◌, ℕ, ◌++◌, Bool, List, [], ◌∷◌, All, Option, length, map, option_map, slice_index_or}
use Rattle.std.specs.List.{sum_by, flat_map}
use Rattle.std.specs.List.Sorted.{IsPermutation}
use Rattle.table_held.specs.Shown as shown
use Rattle.table_held.specs.Shown.{Shows}
use Rattle.table_generations.specs.Buckets.{Content, values, values_of, value_at, owned, shown_all, shown_entries}
use Rattle.table_generations.specs.Generations.{GenerationView}
use Rattle.table_generations.specs.Ways.{IsLawfulFor}
use Rattle.table_terms.specs.Capacities.{IsFirstCapacity}
use Rattle.table_held.specs.Capacity.{IsSized}
use Rattle.table_cell.specs.declared.bucket.Entry.{Entry}
use Rattle.table_held.specs.declared.place.Place as place

-- a place, under the path that callers know
abbrev pub Place : Type 0
Place = place.Place

-- what a table held alone shows
pub record HeldTable (T : Type 0) : Type 0 where
  -- the capacity of the first generation
  pub first_capacity : ℕ
  -- what each bucket of the current generation shows; no bucket while there is no generation
  pub buckets : List (Option (Entry T))
  -- generation by generation, the current one last, what each bucket shows
  pub generations : List (List (Option (Entry T)))
  -- the count that the current generation keeps
  pub size : ℕ

-- a held table, under the name that callers know
abbrev pub Table : Type 0 → Type 0
Table T = HeldTable T

module _ {T : Type 0} where
  -- the entries with their eight bits, in the order of the buckets
  abbrev pub marked : HeldTable T → List (Entry T)
  marked t = values t.buckets

  -- the entries, in the order of the buckets
  abbrev pub entries : HeldTable T → List T
  entries t = values_of (marked t)

  -- the buckets of the current generation
  abbrev pub capacity : HeldTable T → ℕ
  capacity t = length t.buckets

  -- the buckets of all generations
  abbrev pub all_buckets : HeldTable T → ℕ
  all_buckets t = sum_by length t.generations

  -- the entry that the bucket at a place shows, with its bits
  abbrev pub marked_at : HeldTable T → Place → Option (Entry T)
  marked_at t p = value_at (slice_index_or t.generations p.generation []) p.index

  -- the value that lives at a place
  abbrev pub entry_at : HeldTable T → Place → Option T
  entry_at t p = option_map (λ e. e.value) (marked_at t p)

  -- the size is the number of the entries
  abbrev pub IsCounted : HeldTable T → Type 0
  IsCounted t = t.size ≡ length (entries t)

  -- no generation yet
  abbrev pub empty_table : ℕ → HeldTable T
  empty_table first = record { first_capacity = first; buckets = []; generations = [] ∷ []; size = 0 }

  -- what the buckets of each generation hold
  abbrev pub contents_in : {A : Type 0} → List (GenerationView A T) → List (List (Content T))
  contents_in gs = map (λ g. g.contents) gs

  -- generation by generation, the current one last, what each bucket shows
  abbrev pub shown_rows : List (List (Content T)) → List (Content T)
      → List (List (Option (Entry T)))
  shown_rows gs current = map shown_all (gs ++ current ∷ [])

  -- generation by generation, the current one last, what each bucket owns
  abbrev pub owned_rows : List (List (Content T)) → List (Content T)
      → List (List (Option (Entry T)))
  owned_rows gs current = map (λ ps. map owned ps) (gs ++ current ∷ [])

  -- the table of earlier generations and a current one
  abbrev pub table_of : ℕ → List (List (Content T)) → List (Content T) → ℕ → HeldTable T
  table_of first gs current size =
      record {
        first_capacity = first;
        buckets = shown_all current;
        generations = shown_rows gs current;
        size = size;
      }

  -- there is no generation, or the generations have the sizes that growth gives them
  abbrev pub IsBuilt : ℕ → List (List (Content T)) → List (Content T) → Type 0
  IsBuilt first gs current =
      ((gs ≡ []) × (current ≡ []))
      ⊎ IsSized first (length gs) (length current)
      (sum_by length (shown_rows gs current)) (length (shown_entries current))

  -- what is true of the generations of every table
  pub record IsKept (first : ℕ) (gs : List (List (Content T))) (current : List (Content T))
      (size : ℕ) : Type 0 where
    pub first_is : IsFirstCapacity first
    pub built : IsBuilt first gs current
    -- the entries shown are those that some bucket owns, each once
    pub whole : IsPermutation (flat_map values (owned_rows gs current)) (shown_entries current)
    pub counted : size ≡ length (shown_entries current)

  -- generations of one home
  abbrev pub AreOfHome : {A : Type 0} → ℕ → List (GenerationView A T) → GenerationView A T → Type 0
  AreOfHome home gs current = All (λ g. g.home ≡ home) gs × (current.home ≡ home)

module _ {T U : Type 0} (target : T → U) (same : U → U → Bool) (hash_of : U → ℕ) where
  -- the current generation is lawful
  abbrev pub IsLawful : HeldTable T → Type 0
  IsLawful t = IsLawfulFor target same hash_of t.buckets

-- the table is lawful for every equality and every hash
abbrev pub IsLawfulForAll : {T U : Type 0} → (T → U) → HeldTable T → Type 0
IsLawfulForAll {T} {U} target t = (same : U → U → Bool) (hash_of : U → ℕ)
    → IsLawful target same hash_of t

-- a table held alone shows its entries so
abbrev pub held : {T : Type 0} → Shows (HeldTable T) T Place
held = record {
  marked = marked;
  marked_at = marked_at;
  counted = IsCounted;
  lawful = λ U target same hash_of t. IsLawful target same hash_of t;
}

module _ {T : Type 0} where
  -- this entry lives at the place
  abbrev pub IsEntryAt : HeldTable T → Place → T → Type 0
  IsEntryAt t p v = shown.IsEntryAt held t p v

  -- each place keeps its entry, from one table to a later one
  abbrev pub IsLater : HeldTable T → HeldTable T → Type 0
  IsLater old new = shown.IsLater held old new

  -- the table is counted, and its entries are those of the list, in some order
  abbrev pub Stands : HeldTable T → List T → Type 0
  Stands t M = shown.Stands held t M

  -- each list that the table stands for answers its length with this number
  abbrev pub CountsAsList : HeldTable T → ℕ → Type 0
  CountsAsList t k = shown.CountsAsList held t k
