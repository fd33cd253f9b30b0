-- The parts of the invariant, each under its name. Each part is kept by every turn; the files beside this one prove it.
use Rattle.std.proofs.Common.{ℕ, ◌≡◌, ◌+◌, ◌*◌, ◌<◌, ◌≤◌, ◌⊎◌, List, [], ◌∷◌, Bool, true, false, Option, Some, None, length, take}
use Rattle.std.specs.Prelude.{◌==◌}
use Rattle.std.specs.List.{slice_get}
use Rattle.table_core.proofs.Weights.{weigh}
use Rattle.table_core.specs.Replies.{Finished}
use Rattle.table_core.specs.Generations.{Gen, Build, Table, bucket, current, gen_of, bucket_in, entries_of}
use Rattle.table_terms.specs.Hashes.{bits_of}
use Rattle.table_terms.specs.Probes.{bucket_at}
use Rattle.table_core.specs.Phases.{AnInsert, ALookup, Either, about, can_meet}
use Rattle.table_core.specs.Calls.{Call, stands_at_bucket, is_pending}
use Rattle.table_core.specs.Machine.{World}
use Rattle.table_core.specs.History.{back, picks}
use Rattle.table_core.specs.declared.generation.Entry.{Entry}
use Rattle.table_core.specs.declared.call.Phase.{Phase}
use Rattle.table_core.specs.declared.call.Phase.TheVariants.{Placed, LeaveOk, LeaveGrow, AskSize, LenSize, WalkAt, Done}
use Rattle.table_core.specs.declared.call.Outcome.{Outcome}
use Rattle.table_core.specs.declared.call.Outcome.TheVariants.{Pending, New, Existing}
use Rattle.table_core.proofs.Locks.{Locked}
use Rattle.table_core.specs.Law.{Law, accepts}
use Rattle.table_core.specs.Bound.{one_if}
use Rattle.table_core.proofs.Standing.{CallsOk}

-- What the generations hold

-- the weight of the values of these entries
abbrev pub values : (ℕ → ℕ) → List Entry → ℕ
values h es = weigh (λ e. h e.value) es

abbrev pub In : Entry → List Entry → Type 0
In e [] = ⊥
In e (x ∷ xs) = (x ≡ e) ⊎ In e xs

abbrev pub IsSet : List Entry → ℕ → Type 0
IsSet es i = (e : Entry) × (bucket es i ≡ Some e)

-- the current generation holds what was placed; the one being built holds what was copied
pub record Holding (t : Table) (m : List ℕ) : Type 0 where
  pub bag : (h : ℕ → ℕ) → values h (entries_of (current t)) ≡ weigh h m
  pub copied : (b : Build) → t.building ≡ Some b → (h : ℕ → ℕ) → values h b.gen.entries ≡ values h (take b.copied (entries_of (current t)))

-- each generation holds only what was placed
pub record Within (w : World) (m : List ℕ) : Type 0 where
  pub each : (k : ℕ) (g : Gen) → slice_get w.table.gens k ≡ Some g → (h : ℕ → ℕ) → values h g.entries ≤ weigh h m

-- a generation that keeps its capacity and its set buckets, and whose size doesn't fall
pub record Grew (g h : Gen) : Type 0 where
  pub capacity : h.capacity ≡ g.capacity
  pub size : g.size ≤ h.size
  pub kept : (i : ℕ) (e : Entry) → bucket g.entries i ≡ Some e → bucket h.entries i ≡ Some e
  pub more : (h2 : ℕ → ℕ) → values h2 g.entries ≤ values h2 h.entries

pub record AllGrew (gens now : List Gen) : Type 0 where
  pub each : (k : ℕ) (g : Gen) → slice_get gens k ≡ Some g → (h : Gen) × (slice_get now k ≡ Some h) × Grew g h

-- the entries of a generation have places of their own below its capacity
pub record Seated (g : Gen) : Type 0 where
  pub roomy : 0 < g.capacity
  pub own : (e : Entry) → In e g.entries → bucket g.entries e.index ≡ Some e
  pub once : (i : ℕ) → weigh (λ e. one_if (e.index == i)) g.entries ≤ 1
  pub below : (e : Entry) → In e g.entries → e.index < g.capacity

pub record AllSeated (w : World) : Type 0 where
  pub first : 0 < w.table.first
  pub gens : (k : ℕ) (g : Gen) → slice_get w.table.gens k ≡ Some g → Seated g
  pub built : (b : Build) → w.table.building ≡ Some b → Seated b.gen

-- Sizes and capacities

abbrev pub is_placed : Phase → Bool
is_placed Placed = true
is_placed _ = false

-- the calls whose value isn't counted yet
abbrev pub placers : List Call → ℕ
placers cs = weigh (λ c. one_if (is_placed c.state.phase)) cs

-- a size is the number of entries less those that aren't counted yet
pub record SizesOk (w : World) : Type 0 where
  pub counted : (g : Gen) → current w.table ≡ Some g → g.size + placers w.calls ≡ length g.entries
  pub built : (b : Build) → w.table.building ≡ Some b → b.gen.size ≡ length b.gen.entries
  pub within : (k : ℕ) (g : Gen) → slice_get w.table.gens k ≡ Some g → g.size ≤ length g.entries

abbrev pub room : List Gen → ℕ
room gens = weigh (λ g. g.capacity) gens

-- each generation but the first has twice the capacity of the one before it, and was made when that one was half full
pub record Roomy (t : Table) (n : ℕ) : Type 0 where
  pub even : (m : ℕ) × (t.first ≡ 2 * m)
  pub begun : (b : Build) → t.building ≡ Some b → current t ≡ None → (b.gen.capacity ≡ t.first) × (room t.gens ≡ 0)
  pub now : (g : Gen) → current t ≡ Some g → (room t.gens + t.first ≡ 2 * g.capacity) × ((g.capacity ≡ t.first) ⊎ (g.capacity ≤ 4 * n)) × ((m : ℕ) × (g.capacity ≡ 2 * m))
  pub next : (g : Gen) (b : Build) → current t ≡ Some g → t.building ≡ Some b → (b.gen.capacity ≡ 2 * g.capacity) × (g.capacity ≤ 2 * n)
  pub none : current t ≡ None → room t.gens ≡ 0

-- Where the calls stand

-- no two calls have one number
pub record Numbered (w : World) : Type 0 where
  pub apart : (i j : ℕ) (c d : Call) → slice_get w.calls i ≡ Some c → slice_get w.calls j ≡ Some d → c.number ≡ d.number → i ≡ j

-- no two inserts have one value
pub record Valued (w : World) : Type 0 where
  pub apart : (i j : ℕ) (c d : Call) (v : ℕ) → slice_get w.calls i ≡ Some c → slice_get w.calls j ≡ Some d → c.value ≡ Some v → d.value ≡ Some v → i ≡ j

abbrev pub probing : Phase → Bool
probing p = can_meet (about p).next

-- the generation that a call walks, and its capacity, as the call knows them
pub record Walked (gens : List Gen) (w : Option ℕ) (n : ℕ) : Type 0 where
  pub number : ℕ
  pub gen : Gen
  pub walked : w ≡ Some number
  pub got : slice_get gens number ≡ Some gen
  pub capacity : n ≡ gen.capacity

-- a call that probes: its generation, its bucket, and the set buckets that it has passed
pub record Probing (gens : List Gen) (c : Call) : Type 0 where
  pub of : Walked gens c.state.walked c.state.capacity
  pub open of use *
  pub index : c.state.index ≡ bucket_at of.gen.capacity c.state.hash c.state.seen
  pub below : c.state.seen < of.gen.capacity
  pub passed : (j : ℕ) → j < c.state.seen → IsSet of.gen.entries (bucket_at of.gen.capacity c.state.hash j)

-- a call that walks: its generation, and a bucket of it
pub record Walking (gens : List Gen) (c : Call) : Type 0 where
  pub of : Walked gens c.state.walked c.state.capacity
  pub open of use *
  pub below : c.state.index < of.gen.capacity

abbrev pub is_walking : Phase → Bool
is_walking WalkAt = true
is_walking _ = false

-- an insert without an outcome, in a phase that it reaches from LeaveGrow
abbrev pub wants_growth : Phase → Outcome → Bool
wants_growth LeaveGrow o = true
wants_growth Done o = false
wants_growth p o = elim (about p).outcome [ Either ↦ is_pending o | _ ↦ false ]

-- it has found no generation, or every bucket of its generation set
pub record Turned (gens : List Gen) (c : Call) : Type 0 where
  pub full : (k : ℕ) → c.state.walked ≡ Some k → (g : Gen) × (slice_get gens k ≡ Some g) × ((j : ℕ) → j < g.capacity → IsSet g.entries (bucket_at g.capacity c.state.hash j))

-- an accepted entry stays in its bucket
pub record Met (gens : List Gen) (c : Call) : Type 0 where
  pub there : (i : ℕ) → c.state.outcome ≡ Existing i → (e : Entry) × (bucket_in (gen_of gens c.state.walked) i ≡ Some e)

-- a call that asks for a size, or is about to
abbrev pub measuring : Phase → Bool
measuring LeaveOk = true
measuring AskSize = true
measuring LenSize = true
measuring _ = false

pub record Tracked (gens : List Gen) (c : Call) : Type 0 where
  pub probes : probing c.state.phase ≡ true → Probing gens c
  pub stands : is_placed c.state.phase ≡ true → stands_at_bucket c.state ≡ true
  pub measures : measuring c.state.phase ≡ true → 0 < c.state.capacity
  pub walks : is_walking c.state.phase ≡ true → Walking gens c
  pub turned : wants_growth c.state.phase c.state.outcome ≡ true → Turned gens c
  pub met : Met gens c

pub record AllTracked (w : World) : Type 0 where
  pub at : (i : ℕ) (c : Call) → slice_get w.calls i ≡ Some c → Tracked w.table.gens c

-- Where the values are

-- the call's value lies in the table
abbrev pub in_table : Phase → Outcome → Bool
in_table Placed o = true
in_table _ (New _) = true
in_table _ _ = false

-- the call's value was handed back
abbrev pub is_back : Phase → Outcome → Bool
is_back Done Pending = true
is_back Done (Existing _) = true
is_back _ _ = false

-- what lies in the table is what was placed; what was handed back stands in the replies
pub record Placing (cs : List Call) (m : List ℕ) (rs : List Finished) : Type 0 where
  pub table : (h : ℕ → ℕ) → weigh (λ c. weigh h (picks (in_table c.state.phase c.state.outcome) c.value)) cs ≡ weigh h m
  pub back : (h : ℕ → ℕ) → weigh (λ c. weigh h (picks (is_back c.state.phase c.state.outcome) c.value)) cs ≡ weigh h (back rs)

-- Lawful schedules

-- each bucket on the cyclic way from the hash's own place to this one is set
pub record Way (capacity : ℕ) (es : List Entry) (hash index : ℕ) : Type 0 where
  pub steps : ℕ
  pub there : index ≡ bucket_at capacity hash steps
  pub set : (j : ℕ) → j < steps → IsSet es (bucket_at capacity hash j)

-- each entry carries the bits of its hash, and is reached from its hash's own place
pub record Reached (l : Law) (g : Gen) : Type 0 where
  pub bits : (e : Entry) → In e g.entries → e.bits ≡ bits_of (l.hash e.value)
  pub way : (e : Entry) → In e g.entries → Way g.capacity g.entries (l.hash e.value) e.index

-- a call accepts none of the entries in the first n buckets of its probe
pub record Missed (l : Law) (c : Call) (g : Gen) (n : ℕ) : Type 0 where
  pub none : (j : ℕ) (e : Entry) → j < n → bucket g.entries (bucket_at g.capacity c.state.hash j) ≡ Some e → accepts l c e.value ≡ false

-- an insert or a look-up, in a phase that it has before its reply
abbrev pub is_asking : Phase → Bool
is_asking p = elim (about p).caller [ AnInsert ↦ true | ALookup ↦ true | _ ↦ false ]

pub record Judged (l : Law) (gens : List Gen) (c : Call) : Type 0 where
  -- what the call accepts has its hash
  pub hash : is_asking c.state.phase ≡ true → (x : ℕ) → accepts l c x ≡ true → l.hash x ≡ c.state.hash
  pub probes : probing c.state.phase ≡ true → (k : ℕ) (g : Gen) → c.state.walked ≡ Some k → slice_get gens k ≡ Some g → Missed l c g c.state.seen
  pub turned : wants_growth c.state.phase c.state.outcome ≡ true → (k : ℕ) (g : Gen) → c.state.walked ≡ Some k → slice_get gens k ≡ Some g → Missed l c g g.capacity
  pub met : (i : ℕ) (e : Entry) → c.state.outcome ≡ Existing i → bucket_in (gen_of gens c.state.walked) i ≡ Some e → accepts l c e.value ≡ true

pub record LawOk (l : Law) (w : World) : Type 0 where
  pub gens : (k : ℕ) (g : Gen) → slice_get w.table.gens k ≡ Some g → Reached l g
  pub built : (b : Build) → w.table.building ≡ Some b → Reached l b.gen
  pub calls : (i : ℕ) (c : Call) → slice_get w.calls i ≡ Some c → Judged l w.table.gens c

-- The invariant of each moment: m is what was placed, rs are the replies
pub record Inv (w : World) (m : List ℕ) (rs : List Finished) : Type 0 where
  pub locked : Locked w
  pub calls : CallsOk w
  pub numbered : Numbered w
  pub valued : Valued w
  pub holding : Holding w.table m
  pub within : Within w m
  pub sized : SizesOk w
  pub roomy : Roomy w.table (length m)
  pub seated : AllSeated w
  pub tracked : AllTracked w
  pub placing : Placing w.calls m rs
