-- Different buckets for the entries of a generation, and how many there can be.
use Rattle.std.proofs.Common.{eqb-true, ℕ, suc, zero, ◌≡◌, ◌+◌, ◌-◌, ◌%◌, ◌<◌, ◌≤◌, ◌++◌, ◌⊎◌, inl, inr, List, [], ◌∷◌, Bool, true, false, refl, Option, Some, None, length, sym, ap, arith, eqb, take, ◌∙◌}
use Rattle.std.specs.Prelude.{◌==◌}
use Rattle.std.specs.List.{slice_get}
use Rattle.table_core.proofs.Weights.{weigh}
use Rattle.table_core.specs.Replies.{Reply, Finished}
use Rattle.table_core.specs.Generations.{Gen, Build, Table, bucket, if_empty, empty_from, first_empty, fresh, fill, count, copy_in, current, change_at, change, next_capacity, entries_of, entry_left, copy_on, built}
use Rattle.table_terms.specs.Probes.{bucket_at}
use Rattle.table_terms.specs.Capacities.{IsFirstCapacity}
use Rattle.table_core.specs.Calls.{Call}
use Rattle.table_core.specs.Machine.{World, empty, bucket_of, place, begin_growth, Act}
use Rattle.table_core.specs.Steps.{Row, puts, adds, begins_first, begins_next, copies, shows}
use Rattle.table_core.specs.declared.event.Event.{Event}
use Rattle.table_core.specs.declared.generation.Entry.{Entry}
use Rattle.table_core.specs.declared.call.CallState.{CallState}
use Rattle.table_core.specs.declared.call.Phase.{Phase}
use Rattle.table_core.specs.declared.call.Answer.{Answer}
use Rattle.table_core.proofs.Lists.{get-set, get-push, weigh-plus, weigh-ones, weigh-take_more, weigh-take}
use Rattle.table_core.proofs.Locks.{weigh-le}
use Rattle.std.proofs.lemmas.Bool.{eq-eqb, eqb-true}
use Rattle.std.proofs.Math.Nat.{mod-lt, mod-add-mod, mod-eq_of_lt, add-mod_right}
use Rattle.table_core.specs.Bound.{one_if}
use Rattle.table_core.proofs.Turns.{Turn, rests, opens, takes}
use Rattle.table_core.proofs.Facts.{values, In, IsSet, Holding, Seated, AllSeated, Roomy, probing, Probing, AllTracked, Way}
use Rattle.table_core.proofs.Contents.{weigh-put_in, order, put_new, put_stays, in_put, entry_of, bucket_none}
use Rattle.table_core.proofs.Sizes.{first_row, place_building}
use Rattle.table_core.proofs.Pasts.{append-none}
use Rattle.std.proofs.lemmas.Bool.{false_from_ne_true}

-- Places that differ

-- a sum below twice the capacity, taken round
pub round : (capacity h j : ℕ) → h < capacity → j < capacity → ((h + j < capacity) × ((h + j) % capacity ≡ h + j)) ⊎ ((capacity ≤ h + j) × ((h + j) % capacity + capacity ≡ h + j))
round capacity h j a b = elim (order (h + j) capacity) [
  | inl lt ↦ inl (lt, mod-eq_of_lt lt)
  | inr o ↦ (
      let ge : capacity ≤ h + j = elim o [ inl e ↦ omega arith | inr k ↦ omega arith ] in
      let d : h + j ≡ (h + j - capacity) + capacity = omega arith in
      let m : (h + j) % capacity ≡ (h + j - capacity) % capacity = ap (λ x. x % capacity) d ∙ add-mod_right (h + j - capacity) capacity in
      let lt : h + j - capacity < capacity = omega arith in
      let s : (h + j - capacity) % capacity ≡ h + j - capacity = mod-eq_of_lt lt in
      inr (ge, omega arith))
]

pub differ_by : (capacity h j n : ℕ) → j < n → (h + j) % capacity ≡ (h + n) % capacity → ((h + j < capacity) × ((h + j) % capacity ≡ h + j)) ⊎ ((capacity ≤ h + j) × ((h + j) % capacity + capacity ≡ h + j)) → ((h + n < capacity) × ((h + n) % capacity ≡ h + n)) ⊎ ((capacity ≤ h + n) × ((h + n) % capacity + capacity ≡ h + n)) → n < capacity → ⊥
differ_by capacity h j n lt e (inl a) (inl b) k = absurd (omega (arith, a.1, b.1))
differ_by capacity h j n lt e (inl a) (inr b) k = absurd (omega (arith, a.1, b.1))
differ_by capacity h j n lt e (inr a) (inl b) k = absurd (omega (arith, a.1, b.1, a.0, b.0))
differ_by capacity h j n lt e (inr a) (inr b) k = absurd (omega (arith, a.1, b.1))

pub places_differ : (capacity hash j n : ℕ) → j < n → n < capacity → bucket_at capacity hash j ≡ bucket_at capacity hash n → ⊥
places_differ capacity hash j n lt le e =
    let pos : 0 < capacity = omega arith in
    let h : hash % capacity < capacity = mod-lt hash pos in
    let a : (hash % capacity + j) % capacity ≡ (hash + j) % capacity = mod-add-mod hash capacity j in
    let b : (hash % capacity + n) % capacity ≡ (hash + n) % capacity = mod-add-mod hash capacity n in
    let c : (hash % capacity + j) % capacity ≡ (hash % capacity + n) % capacity = a ∙ (e ∙ sym b) in
    differ_by capacity (hash % capacity) j n lt c (round capacity (hash % capacity) j h (omega arith)) (round capacity (hash % capacity) n h le) le

-- how many of the first n places of a probe are this one
abbrev pub hits : ℕ → ℕ → ℕ → ℕ → ℕ
hits capacity hash x zero = 0
hits capacity hash x (suc n) = one_if (x == bucket_at capacity hash n) + hits capacity hash x n

pub no_hits : (capacity hash x n : ℕ) → ((j : ℕ) → j < n → x ≡ bucket_at capacity hash j → ⊥) → hits capacity hash x n ≡ 0
no_hits capacity hash x zero f = refl
no_hits capacity hash x (suc n) f =
    let z : (x == bucket_at capacity hash n) ≡ false = false_from_ne_true _ (λ q. f n (omega arith) (eqb-true x (bucket_at capacity hash n) q)) in
    omega (arith, ap one_if z, no_hits capacity hash x n (λ j lt. f j (omega arith)))

pub one_hit_at : (capacity hash x n : ℕ) → suc n ≤ capacity → (b : Bool) → (x == bucket_at capacity hash n) ≡ b → hits capacity hash x n ≤ 1 → one_if b + hits capacity hash x n ≤ 1
one_hit_at capacity hash x n le true e h = omega (arith, no_hits capacity hash x n (λ j lt q. places_differ capacity hash j n lt le (sym q ∙ eqb-true x (bucket_at capacity hash n) e)))
one_hit_at capacity hash x n le false e h = omega arith

pub one_hit : (capacity hash x n : ℕ) → n ≤ capacity → hits capacity hash x n ≤ 1
one_hit capacity hash x zero le = omega arith
one_hit capacity hash x (suc n) le = one_hit_at capacity hash x n le _ refl (one_hit capacity hash x n (omega arith))

-- a set bucket is of some entry
pub set_counts_at : (e x : Entry) (xs : List Entry) (i : ℕ) (b : Bool) → (x.index == i) ≡ b → bucket (x ∷ xs) i ≡ Some e → (bucket xs i ≡ Some e → 1 ≤ weigh (λ e. one_if (e.index == i)) xs) → 1 ≤ one_if b + weigh (λ e. one_if (e.index == i)) xs
set_counts_at e x xs i true h k f = omega arith
set_counts_at e x xs i false h k f = omega (arith, f (rw h at k))

pub set_counts : (e : Entry) (es : List Entry) (i : ℕ) → bucket es i ≡ Some e → 1 ≤ weigh (λ e. one_if (e.index == i)) es
set_counts e [] i h = absurd (cc)
set_counts e (x ∷ xs) i h = set_counts_at e x xs i _ refl h (set_counts e xs i)

pub all_hit : (capacity hash n : ℕ) (es : List Entry) → ((j : ℕ) → j < n → IsSet es (bucket_at capacity hash j)) → n ≤ weigh (λ e. hits capacity hash e.index n) es
all_hit capacity hash zero es f = omega arith
all_hit capacity hash (suc n) es f =
    let s = f n (omega arith) in
    omega (arith, set_counts s.0 es (bucket_at capacity hash n) s.1, all_hit capacity hash n es (λ j lt. f j (omega arith)), weigh-plus (λ (e : Entry). hits capacity hash e.index (suc n)) (λ e. one_if (e.index == bucket_at capacity hash n)) (λ e. hits capacity hash e.index n) (λ e. refl) es)

-- so many different set buckets, so many entries
pub many_buckets : (capacity hash n : ℕ) (es : List Entry) → n ≤ capacity → ((j : ℕ) → j < n → IsSet es (bucket_at capacity hash j)) → n ≤ length es
many_buckets capacity hash n es le f = omega (arith, all_hit capacity hash n es f, weigh-le (λ (e : Entry). hits capacity hash e.index n) (λ e. 1) (λ e. one_hit capacity hash e.index n le) es, weigh-ones es)

-- The first empty place

pub more_set : (capacity hash j : ℕ) (es : List Entry) (d : Entry) → bucket es (bucket_at capacity hash j) ≡ Some d → ((m : ℕ) → m < j → IsSet es (bucket_at capacity hash m)) → (m : ℕ) → m < suc j → IsSet es (bucket_at capacity hash m)
more_set capacity hash j es d h f m lt = elim (order m j) [ inl k ↦ f m k | inr o ↦ elim o [ inl e ↦ (d, rw e h) | inr k ↦ absurd (omega arith) ] ]

pub empty_at_end : (capacity hash d : ℕ) (es : List Entry) (o : Option Entry) → bucket es (bucket_at capacity hash d) ≡ o → length es < capacity → d ≡ length es → ((j : ℕ) → j < d → IsSet es (bucket_at capacity hash j)) → o ≡ None
empty_at_end capacity hash d es None h lt e f = refl
empty_at_end capacity hash d es (Some x) h lt e f = absurd (let m : suc d ≤ length es = many_buckets capacity hash (suc d) es (omega arith) (more_set capacity hash d es x h f) in omega arith)

pub empty_way_at : (capacity hash : ℕ) (es : List Entry) (d set : ℕ) (o : Option Entry) → bucket es (bucket_at capacity hash d) ≡ o → length es < capacity → d + suc set ≡ length es → ((j : ℕ) → j < d → IsSet es (bucket_at capacity hash j)) →
    (((j : ℕ) → j < suc d → IsSet es (bucket_at capacity hash j)) → Way capacity es hash (empty_from capacity es hash (suc d) set) × (bucket es (empty_from capacity es hash (suc d) set) ≡ None)) →
    Way capacity es hash (if_empty o (bucket_at capacity hash d) (empty_from capacity es hash (suc d) set)) × (bucket es (if_empty o (bucket_at capacity hash d) (empty_from capacity es hash (suc d) set)) ≡ None)
empty_way_at capacity hash es d set None h lt e f k = (record { steps = d; there = refl; set = f }, h)
empty_way_at capacity hash es d set (Some x) h lt e f k = k (more_set capacity hash d es x h f)

pub empty_way : (capacity hash : ℕ) (es : List Entry) (d set : ℕ) → length es < capacity → d + set ≡ length es → ((j : ℕ) → j < d → IsSet es (bucket_at capacity hash j)) → Way capacity es hash (empty_from capacity es hash d set) × (bucket es (empty_from capacity es hash d set) ≡ None)
empty_way capacity hash es d zero lt e f = (record { steps = d; there = refl; set = f }, empty_at_end capacity hash d es _ refl lt (omega arith) f)
empty_way capacity hash es d (suc set) lt e f = empty_way_at capacity hash es d set _ refl lt e f (λ g. empty_way capacity hash es (suc d) set lt (omega arith) g)

-- the place that a copy goes to ends the way from its hash's own place, and is empty
pub first_empty_way : (g : Gen) (hash : ℕ) → length g.entries < g.capacity → Way g.capacity g.entries hash (first_empty g hash) × (bucket g.entries (first_empty g hash) ≡ None)
first_empty_way g hash lt = empty_way g.capacity hash g.entries 0 (length g.entries) lt (omega arith) (λ j k. absurd (omega arith))

-- No more entries than buckets

-- how many of the numbers below n are this one
abbrev pub hit_below : ℕ → ℕ → ℕ
hit_below x zero = 0
hit_below x (suc n) = one_if (x == n) + hit_below x n

pub is_hit_at : (x n : ℕ) (b : Bool) → (x == n) ≡ b → x < suc n → (x < n → 1 ≤ hit_below x n) → 1 ≤ one_if b + hit_below x n
is_hit_at x n true e lt f = omega arith
is_hit_at x n false e lt f = omega (arith, f (elim (order x n) [ inl k ↦ k | inr o ↦ elim o [ inl q ↦ absurd (let y : eqb x n ≡ true = eq-eqb x n q in cc) | inr k ↦ absurd (omega arith) ] ]))

pub is_hit : (x n : ℕ) → x < n → 1 ≤ hit_below x n
is_hit x zero lt = absurd (omega arith)
is_hit x (suc n) lt = is_hit_at x n _ refl lt (is_hit x n)

pub weigh-nothing : (es : List Entry) → weigh (λ e. 0) es ≡ 0
weigh-nothing [] = refl
weigh-nothing (x ∷ xs) = omega (arith, weigh-nothing xs)

pub few_hits : (es : List Entry) (n : ℕ) → ((i : ℕ) → weigh (λ e. one_if (e.index == i)) es ≤ 1) → weigh (λ e. hit_below e.index n) es ≤ n
few_hits es zero f = omega (arith, weigh-nothing es)
few_hits es (suc n) f = omega (arith, f n, few_hits es n f, weigh-plus (λ (e : Entry). hit_below e.index (suc n)) (λ e. one_if (e.index == n)) (λ e. hit_below e.index n) (λ e. refl) es)

pub each_weighs : (f : Entry → ℕ) (es : List Entry) → ((e : Entry) → In e es → 1 ≤ f e) → length es ≤ weigh f es
each_weighs f [] h = omega arith
each_weighs f (x ∷ xs) h = omega (arith, h x (inl refl), each_weighs f xs (λ e i. h e (inr i)))

pub entries_fit : (g : Gen) → Seated g → length g.entries ≤ g.capacity
entries_fit g s = omega (arith, few_hits g.entries g.capacity s.once, each_weighs (λ e. hit_below e.index g.capacity) g.entries (λ e i. is_hit e.index g.capacity (s.below e i)))

-- Entries that are put

pub no_count_at : (x : Entry) (xs : List Entry) (i : ℕ) (b : Bool) → (x.index == i) ≡ b → bucket (x ∷ xs) i ≡ None → (bucket xs i ≡ None → weigh (λ e. one_if (e.index == i)) xs ≡ 0) → one_if b + weigh (λ e. one_if (e.index == i)) xs ≡ 0
no_count_at x xs i true h k f = absurd (let z : Some x ≡ None = rw h at k in cc)
no_count_at x xs i false h k f = omega (arith, f (rw h at k))

pub no_count : (es : List Entry) (i : ℕ) → bucket es i ≡ None → weigh (λ e. one_if (e.index == i)) es ≡ 0
no_count [] i h = refl
no_count (x ∷ xs) i h = no_count_at x xs i _ refl h (no_count xs i)

pub once_at : (e : Entry) (es : List Entry) (i : ℕ) (b : Bool) → (e.index == i) ≡ b → bucket es e.index ≡ None → weigh (λ e. one_if (e.index == i)) es ≤ 1 → one_if b + weigh (λ e. one_if (e.index == i)) es ≤ 1
once_at e es i true h n le = let q : e.index ≡ i = eqb-true e.index i h in omega (arith, no_count es i (rw q at n))
once_at e es i false h n le = omega arith

-- an entry put into an empty bucket
pub seated_put : (g : Gen) (e : Entry) → bucket g.entries e.index ≡ None → e.index < g.capacity → Seated g → Seated (fill g e)
seated_put g e n lt s = record {
  roomy = s.roomy;
  own = λ d i. elim (in_put d e g.entries i) [ inl q ↦ rw (← q) (put_new e g.entries n) | inr q ↦ put_stays e d g.entries d.index n (s.own d q) ];
  once = λ i. omega (arith, weigh-put_in (λ d. one_if (d.index == i)) e g.entries, once_at e g.entries i _ refl n (s.once i));
  below = λ d i. elim (in_put d e g.entries i) [ inl q ↦ rw (← q) lt | inr q ↦ s.below d q ];
}

pub seated_count : (g : Gen) → Seated g → Seated (count g)
seated_count g s = record { roomy = s.roomy; own = s.own; once = s.once; below = s.below }

pub seated_fresh : (capacity : ℕ) → 0 < capacity → Seated (fresh capacity)
seated_fresh capacity pos = record { roomy = pos; own = λ e i. absurd i; once = λ i. omega arith; below = λ e i. absurd i }

pub seated_change_at : (gens : List Gen) (k : ℕ) (o : Option Gen) (f : Gen → Gen) → slice_get gens k ≡ o → ((g : Gen) → o ≡ Some g → Seated g → Seated (f g)) → ((j : ℕ) (g : Gen) → slice_get gens j ≡ Some g → Seated g) → (j : ℕ) (g : Gen) → slice_get (change_at gens k o f) j ≡ Some g → Seated g
seated_change_at gens k None f h s c j g e = c j g e
seated_change_at gens k (Some d) f h s c j g e = elim (get-set gens k j d (f d) g h e) [ inl p ↦ rw p.1 (s d refl (c k d h)) | inr p ↦ c j g p.1 ]

pub seated_change : (gens : List Gen) (w : Option ℕ) (f : Gen → Gen) → ((k : ℕ) (g : Gen) → w ≡ Some k → slice_get gens k ≡ Some g → Seated g → Seated (f g)) → ((j : ℕ) (g : Gen) → slice_get gens j ≡ Some g → Seated g) → (j : ℕ) (g : Gen) → slice_get (change gens w f) j ≡ Some g → Seated g
seated_change gens None f s c j g e = c j g e
seated_change gens (Some k) f s c j g e = seated_change_at gens k (slice_get gens k) f refl (λ d h. s k d refl h) c j g e

-- the bucket of a probe lies below the capacity
pub probe_below : (w : World) (c : Call) (k : ℕ) (g : Gen) → Probing w.table.gens c → c.state.walked ≡ Some k → slice_get w.table.gens k ≡ Some g → Seated g → c.state.index < g.capacity
probe_below w c k g p wa ge s =
    let m : p.number ≡ k = (let x : Some p.number ≡ Some k = sym p.walked ∙ wa in cc) in
    let y : slice_get w.table.gens k ≡ Some p.gen = rw m at p.got in
    let d : p.gen ≡ g = cc in
    let i : c.state.index ≡ bucket_at g.capacity c.state.hash c.state.seen = rw d at p.index in
    rw i (mod-lt (c.state.hash + c.state.seen) s.roomy)

pub seated_place : (w : World) (c : Call) (v : Option ℕ) → bucket_of w.table c.state ≡ None → Probing w.table.gens c → AllSeated w → (j : ℕ) (g : Gen) → slice_get (place w.table c.state v).gens j ≡ Some g → Seated g
seated_place w c None n p s j g e = s.gens j g e
seated_place w c (Some v) n p s j g e = seated_change w.table.gens c.state.walked (λ g. fill g (entry_of c.state v)) (λ k d h q z. seated_put d (entry_of c.state v) (bucket_none w.table c.state k d h q n) (probe_below w c k d p h q z) z) s.gens j g e

pub next_positive : (w : World) (o : Option Gen) → current w.table ≡ o → AllSeated w → 0 < next_capacity w.table.first o
next_positive w None h s = s.first
next_positive w (Some g) h s = omega (arith, (s.gens (length w.table.gens - 1) g h).roomy)

pub seated_begin : (w : World) → AllSeated w → (b : Build) → (begin_growth w.table).building ≡ Some b → Seated b.gen
seated_begin w s b e = let z : record { gen = fresh (next_capacity w.table.first (current w.table)); copied = 0 } ≡ b = cc in rw (← z) (seated_fresh _ (next_positive w (current w.table) refl s))

pub fewer_copied : (es : List Entry) (k : ℕ) (e : Entry) → slice_get es k ≡ Some e → weigh (λ e. 1) (take k es) < length es
fewer_copied es k e h = omega (arith, weigh-take_more (λ e. 1) es k e h, weigh-take (λ e. 1) es (suc k), weigh-ones es)

-- a generation being built has room for each entry that is left
pub copy_room : (t : Table) (m : List ℕ) (n : ℕ) (g : Option Gen) (b : Build) (e : Entry) → current t ≡ g → t.building ≡ Some b → slice_get (entries_of g) b.copied ≡ Some e → Holding t m → Roomy t n → ((d : Gen) → g ≡ Some d → Seated d) → length b.gen.entries < b.gen.capacity
copy_room t m n None b e h k i o r s = absurd (cc)
copy_room t m n (Some d) b e h k i o r s =
    let c : values (λ v. 1) b.gen.entries ≡ values (λ v. 1) (take b.copied d.entries) = rw h at (o.copied b k (λ v. 1)) in
    omega (arith, c, weigh-ones b.gen.entries, fewer_copied d.entries b.copied e i, entries_fit d (s d refl), (r.next d b h k).0, (s d refl).roomy)

pub seated_copy_at : (t : Table) (m : List ℕ) (n : ℕ) (o : Option Build) (e : Entry) (hash : ℕ) → t.building ≡ o → entry_left (entries_of (current t)) o ≡ Some e → Holding t m → Roomy t n → ((d : Gen) → current t ≡ Some d → Seated d) → ((b : Build) → t.building ≡ Some b → Seated b.gen) → (d : Build) → copy_on o e hash ≡ Some d → Seated d.gen
seated_copy_at t m n None e hash h k o r s u d x = absurd (cc)
seated_copy_at t m n (Some b) e hash h k o r s u d x =
    let y : record { gen = copy_in b.gen e (first_empty b.gen hash); copied = b.copied + 1 } ≡ d = cc in
    let lt = copy_room t m n (current t) b e refl h k o r s in
    let f = first_empty_way b.gen hash lt in
    let z = u b h in
    rw (← y) (seated_count _ (seated_put b.gen (record e { index = first_empty b.gen hash }) f.1 (rw f.0.there (mod-lt (hash + f.0.steps) z.roomy)) z))

pub seated_show : (t : Table) (b : Option Build) → t.building ≡ b → ((j : ℕ) (g : Gen) → slice_get t.gens j ≡ Some g → Seated g) → ((d : Build) → t.building ≡ Some d → Seated d.gen) → (j : ℕ) (g : Gen) → slice_get (t.gens ++ built b) j ≡ Some g → Seated g
seated_show t None h s u j g e = s j g (rw append-none at e)
seated_show t (Some b) h s u j g e = elim (get-push t.gens b.gen g j e) [ inl p ↦ rw p.1 (u b h) | inr p ↦ s j g p ]

pub seated_gens : (w : World) (c : Call) {p : Phase} {x : Event} {a : Answer} {r : CallState} {ls : List ℕ} {t : Table} {q : Option Reply} → Row w c p x a r ls t q → (probing p ≡ true → Probing w.table.gens c) → AllSeated w → (j : ℕ) (g : Gen) → slice_get t.gens j ≡ Some g → Seated g
seated_gens w c (puts _ _ n) p s = seated_place w c c.value n (p refl) s
seated_gens w c (adds _) p s = seated_change w.table.gens c.state.walked count (λ k g h e z. seated_count g z) s.gens
seated_gens w c (shows _ _) p s = seated_show w.table w.table.building refl s.gens s.built
seated_gens w c _ p s = s.gens

pub seated_built : (w : World) (c : Call) {p : Phase} {x : Event} {a : Answer} {r : CallState} {ls : List ℕ} {t : Table} {q : Option Reply} → Row w c p x a r ls t q → (m : List ℕ) (n : ℕ) → Holding w.table m → Roomy w.table n → AllSeated w → (b : Build) → t.building ≡ Some b → Seated b.gen
seated_built w c (puts _ _ _) m n o y s b e = s.built b (sym (place_building w.table c.state c.value) ∙ e)
seated_built w c (begins_first _ _) m n o y s b e = seated_begin w s b e
seated_built w c (begins_next _ _ _ _ _) m n o y s b e = seated_begin w s b e
seated_built w c (copies _ k e2 h) m n o y s b e = seated_copy_at w.table m n w.table.building e2 k refl h o y (λ d q. s.gens _ d q) s.built b e
seated_built w c (shows _ _) m n o y s b e = absurd (cc)
seated_built w c _ m n o y s b e = s.built b e

pub keeps_seated : {w v : World} {x : Event} {a : Option Act} {r : Option Finished} (m : List ℕ) (n : ℕ) → Turn w x a v r → Holding w.table m → Roomy w.table n → AllTracked w → AllSeated w → AllSeated v
keeps_seated m n rests o y u s = s
keeps_seated m n (opens _ _ _ _ _ _ _ _) o y u s = record { first = s.first; gens = s.gens; built = s.built }
keeps_seated {w = w} m n (takes i c p a s list t o g e row nu) h y u z = record {
  first = rw (first_row w c row) z.first;
  gens = seated_gens w c row (λ q. (u.at i c g).probes (ap probing e ∙ q)) z;
  built = seated_built w c row m n h y z;
}

pub seated_empty : (first : ℕ) → IsFirstCapacity first → AllSeated (empty first)
seated_empty first h = record { first = omega (arith, h.1); gens = λ k g e. absurd (cc); built = λ b e. absurd (cc) }
