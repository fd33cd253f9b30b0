-- How the fast structures of the code stand for the machine's lists.
use Rattle.std.specs.Prelude.{ℕ, suc, ◌*◌, ◌==◌, ◌≡◌, ◌≤◌, ◌<◌, length, if◌then◌else◌, Bool}
use Rattle.std.specs.Prelude.{count_by}
use Rattle.std.specs.Prelude.{true, false, Option, Some, None, List, [], ◌∷◌, ◌++◌, map}
use Rattle.std.specs.Prelude.{option_to_list}
use Rattle.std.specs.Option.{option_map}
use Rattle.table_core.specs.Generations.{Gen, Build, bucket}
use Rattle.table_terms.specs.Probes.{bucket_at}
use Rattle.table_terms.specs.Capacities.{IsCapacity}
use Rattle.table_core.specs.Calls.{Call, holds_shared, holds_owned}
use Rattle.table_core.specs.declared.generation.Entry.{Entry}
use Rattle.table_core.specs.declared.generation.Slot.{Slot}

-- an entry as a map keeps it, by its index
abbrev pub entry_of : ℕ × Slot → Entry
entry_of p = record { index = p.0; value = p.1.value; bits = p.1.bits }

-- so many buckets from this one on, in turn, are set
abbrev pub AllSet : Gen → ℕ → ℕ → Type 0
AllSet g index n =
    (j : ℕ) → j < n → (e : Entry) × (bucket g.entries (bucket_at g.capacity index j) ≡ Some e)

-- a run of so many buckets from a set one on: there are as many entries, and those after it are
-- set too
abbrev pub IsRun : ℕ → List Entry → ℕ → ℕ → Type 0
IsRun capacity es index n = (1 ≤ n) × (n ≤ length es) ×
    ((j : ℕ) → 1 ≤ j → j < n → (e : Entry) × (bucket es (bucket_at capacity index j) ≡ Some e))

-- what each of these slots keeps is a run among es
abbrev pub RunsHold : ℕ → List Entry → List (ℕ × Slot) → Type 0
RunsHold capacity es [] = Unit {0}
RunsHold capacity es (p ∷ ps) = IsRun capacity es p.0 p.1.run × RunsHold capacity es ps

-- where the call of this number stands among the calls
abbrev pub position_of : ℕ → List Call → Option ℕ
position_of n [] = None
position_of n (c ∷ calls) =
    if c.number == n then Some 0 else option_map (λ i. suc i) (position_of n calls)

-- 1 for true and 0 for false
abbrev pub one_if : Bool → ℕ
one_if true = 1
one_if false = 0

-- how many calls hold the lock shared
abbrev pub sharing_among : List Call → ℕ
sharing_among calls = count_by (λ c. holds_shared c.state.phase) calls

-- how many calls hold the lock exclusively
abbrev pub owning_among : List Call → ℕ
owning_among calls = count_by (λ c. holds_owned c.state.phase) calls

-- the generation being built, if there is one, with so many entries copied
abbrev pub build_of : Option Gen → ℕ → Option Build
build_of None copied = None
build_of (Some g) copied = Some (record { gen = g; copied = copied })

-- each of these capacities is twice the one before, and the first is n
abbrev pub Doubles : ℕ → List ℕ → Type 0
Doubles n [] = Unit {0}
Doubles n (c ∷ cs) = (c ≡ n) × IsCapacity n × Doubles (2 * n) cs

-- the capacities of the generations, and of the one being built
abbrev pub capacities : List Gen → Option Gen → List ℕ
capacities gens growing = map (λ g. g.capacity) (gens ++ option_to_list growing)
