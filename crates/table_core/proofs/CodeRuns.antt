-- Runs of set buckets, as a generation's slots keep them.
use Rattle.std.proofs.Common.{ℕ, suc, zero, ◌≡◌, ◌+◌, ◌-◌, ◌%◌, ◌<◌, ◌≤◌, List, [], ◌∷◌, Bool, true, false, refl, Option, Some, None, length, sym, ap, arith, eqb, cond, ◌∙◌, inl, inr, subst}
use Rattle.std.specs.Prelude.{map}
use Rattle.std.specs.Ordering.{nat_cmp}
use Rattle.std.specs.BTreeMap.{is_at, insert_entry}
use Rattle.std.specs.Map.{lookup, set_value}
use Rattle.std.proofs.lemmas.Bool.{eqb-true}
use Rattle.std.proofs.lemmas.Nat.{mod_below}
use Rattle.std.proofs.Math.Nat.{mod-add-mod, mod-eq_of_lt, add-mod_left}
use Rattle.table_core.specs.Generations.{Gen, bucket, if_empty, empty_from, first_empty}
use Rattle.table_core.specs.Bound.{entry_of, AllSet, IsRun, RunsHold}
use Rattle.table_terms.specs.Probes.{bucket_at}
use Rattle.table_core.specs.declared.generation.Entry.{Entry}
use Rattle.table_core.specs.declared.generation.Slot.{Slot}
use Rattle.table_core.proofs.CodeEntries.{below, same, above, compared, at_place_test}
use Rattle.table_core.proofs.Facts.{IsSet}
use Rattle.table_core.proofs.Contents.{order}

-- Slots

run_of_at : (capacity p : ℕ) (es : List Entry) (e : ℕ × Slot) (s : Slot) (o : Option Slot) (b : Bool) → eqb e.0 p ≡ b → cond b (Some e.1) o ≡ Some s →
    IsRun capacity es e.0 e.1.run → (o ≡ Some s → IsRun capacity es p s.run) → IsRun capacity es p s.run
run_of_at capacity p es e s o true h k r f =
    let q : e.0 ≡ p = eqb-true e.0 p h in
    let t : e.1 ≡ s = cc in
    subst (λ x. IsRun capacity es p x.run) t (subst (λ x. IsRun capacity es x e.1.run) q r)
run_of_at capacity p es e s o false h k r f = f k

-- the run of a slot that is found
pub run_of : (capacity p : ℕ) (es : List Entry) (s : Slot) (ps : List (ℕ × Slot)) → lookup (is_at (nat_cmp p)) ps ≡ Some s → RunsHold capacity es ps → IsRun capacity es p s.run
run_of capacity p es s [] h r = absurd (cc)
run_of capacity p es s (e ∷ ps) h r = run_of_at capacity p es e s _ (eqb e.0 p) refl (rw (at_place_test p e.0) at h) r.0 (λ k. run_of capacity p es s ps k r.1)

-- runs stay runs among more entries
pub runs_grown : (capacity : ℕ) (es now : List Entry) (ps : List (ℕ × Slot)) → length es ≤ length now → ((i : ℕ) → IsSet es i → IsSet now i) → RunsHold capacity es ps → RunsHold capacity now ps
runs_grown capacity es now [] le f r = tt
runs_grown capacity es now (p ∷ ps) le f r = ((r.0.0, omega (arith, r.0.1), λ j least lt. f _ (r.0.2 j least lt)), runs_grown capacity es now ps le f r.1)

-- a slot more, with a run
pub runs_put : (capacity k : ℕ) (s : Slot) (es : List Entry) (ps : List (ℕ × Slot)) → IsRun capacity es k s.run → RunsHold capacity es ps → RunsHold capacity es (insert_entry nat_cmp ps k s)
runs_put capacity k s es [] n r = (n, tt)
runs_put capacity k s es (e ∷ ps) n r = elim (compared k e.0) [
  | below l q c ↦ rw c (n, r)
  | same q c ↦ rw c (subst (λ x. IsRun capacity es x s.run) q n, r.1)
  | above l q c ↦ rw c (r.0, runs_put capacity k s es ps n r.1)
]

runs_set_at : (capacity p : ℕ) (w : Slot) (es : List Entry) (e : ℕ × Slot) (ps : List (ℕ × Slot)) (b : Bool) → eqb e.0 p ≡ b → IsRun capacity es p w.run → RunsHold capacity es (e ∷ ps) → RunsHold capacity es (set_value (is_at (nat_cmp p)) ps w) →
    RunsHold capacity es (cond b ((e.0, w) ∷ ps) (e ∷ set_value (is_at (nat_cmp p)) ps w))
runs_set_at capacity p w es e ps true h n r f = (subst (λ x. IsRun capacity es x w.run) (sym (eqb-true e.0 p h)) n, r.1)
runs_set_at capacity p w es e ps false h n r f = (r.0, f)

-- another run in a slot
pub runs_set : (capacity p : ℕ) (w : Slot) (es : List Entry) (ps : List (ℕ × Slot)) → IsRun capacity es p w.run → RunsHold capacity es ps → RunsHold capacity es (set_value (is_at (nat_cmp p)) ps w)
runs_set capacity p w es [] n r = tt
runs_set capacity p w es (e ∷ ps) n r = rw (at_place_test p e.0) (runs_set_at capacity p w es e ps (eqb e.0 p) refl n r (runs_set capacity p w es ps n r.1))

entries_set_at : (p run : ℕ) (s : Slot) (e : ℕ × Slot) (ps : List (ℕ × Slot)) (b : Bool) → cond b (Some e.1) (lookup (is_at (nat_cmp p)) ps) ≡ Some s →
    (lookup (is_at (nat_cmp p)) ps ≡ Some s → map entry_of (set_value (is_at (nat_cmp p)) ps (record s { run = run })) ≡ map entry_of ps) →
    map entry_of (cond b ((e.0, record s { run = run }) ∷ ps) (e ∷ set_value (is_at (nat_cmp p)) ps (record s { run = run }))) ≡ map entry_of (e ∷ ps)
entries_set_at p run s e ps true h f =
    let t : e.1 ≡ s = cc in
    ap (λ x. entry_of (e.0, x) ∷ map entry_of ps) (sym t)
entries_set_at p run s e ps false h f = ap (λ xs. entry_of e ∷ xs) (f h)

-- a slot whose run alone changes holds the same entry
pub entries_set : (p run : ℕ) (s : Slot) (ps : List (ℕ × Slot)) → lookup (is_at (nat_cmp p)) ps ≡ Some s → map entry_of (set_value (is_at (nat_cmp p)) ps (record s { run = run })) ≡ map entry_of ps
entries_set p run s [] h = refl
entries_set p run s (e ∷ ps) h = entries_set_at p run s e ps (is_at (nat_cmp p) e.0) h (entries_set p run s ps)

-- Buckets on the way from a hash's own

-- from one bucket of the way, and from the hash's own
pub on_from : (capacity hash d j : ℕ) → bucket_at capacity (bucket_at capacity hash d) j ≡ bucket_at capacity hash (d + j)
on_from capacity hash d j = mod-add-mod (hash + d) capacity j ∙ ap (λ x. x % capacity) (let e : hash + d + j ≡ hash + (d + j) = omega arith in e)

-- a step past the last bucket comes round to the first
pub round_the_end : (capacity index steps : ℕ) → index < capacity → capacity - index ≤ steps → (steps - (capacity - index)) % capacity ≡ bucket_at capacity index steps
round_the_end capacity index steps lt le =
    let e : capacity + (steps - (capacity - index)) ≡ index + steps = omega arith in
    sym (add-mod_left capacity (steps - (capacity - index))) ∙ ap (λ x. x % capacity) e

-- a run from a set bucket of the generation on is all set
pub set_from : (g : Gen) (index n : ℕ) → index < g.capacity → IsSet g.entries index → IsRun g.capacity g.entries index n → AllSet g index n
set_from g index n in_index s r zero lt =
    let e : index + 0 ≡ index = omega arith in
    (s.0, ap (bucket g.entries) (ap (λ x. x % g.capacity) e ∙ mod-eq_of_lt in_index) ∙ s.1)
set_from g index n in_index s r (suc j) lt = r.2 (suc j) (omega arith) lt

-- the first empty bucket from some steps on: how far it is, and that those before it are set
pub record Ends (capacity : ℕ) (es : List Entry) (hash from most index : ℕ) : Type 0 where
  pub steps : ℕ
  pub there : index ≡ bucket_at capacity hash steps
  pub least : from ≤ steps
  pub near : steps ≤ from + most
  pub set : (j : ℕ) → from ≤ j → j < steps → IsSet es (bucket_at capacity hash j)

ends_further : (capacity hash d n : ℕ) (es : List Entry) (index : ℕ) → IsSet es (bucket_at capacity hash d) → Ends capacity es hash (suc d) n index → Ends capacity es hash d (suc n) index
ends_further capacity hash d n es index h e = record {
  steps = e.steps;
  there = e.there;
  least = let l = e.least in omega arith;
  near = let l = e.near in omega arith;
  set = λ j le lt. elim (order j d) [ inl k ↦ absurd (omega arith) | inr o ↦ elim o [ inl q ↦ (h.0, rw q h.1) | inr k ↦ e.set j (omega arith) lt ] ];
}

ends_at : (capacity hash d n : ℕ) (es : List Entry) (o : Option Entry) → bucket es (bucket_at capacity hash d) ≡ o → Ends capacity es hash (suc d) n (empty_from capacity es hash (suc d) n) →
    Ends capacity es hash d (suc n) (if_empty o (bucket_at capacity hash d) (empty_from capacity es hash (suc d) n))
ends_at capacity hash d n es None h e = record { steps = d; there = refl; least = omega arith; near = omega arith; set = λ j le lt. absurd (omega arith) }
ends_at capacity hash d n es (Some x) h e = ends_further capacity hash d n es _ (x, h) e

pub ends : (capacity hash d n : ℕ) (es : List Entry) → Ends capacity es hash d n (empty_from capacity es hash d n)
ends capacity hash d zero es = record { steps = d; there = refl; least = omega arith; near = omega arith; set = λ j le lt. absurd (omega arith) }
ends capacity hash d (suc n) es = ends_at capacity hash d n es _ refl (ends capacity hash (suc d) n es)

-- the buckets after a run are those of the next
pub joined : (g : Gen) (index m n : ℕ) → AllSet g index m → AllSet g (bucket_at g.capacity index m) n → AllSet g index (m + n)
joined g index m n f h j lt = elim (order j m) [
  | inl k ↦ f j k
  | inr k ↦
      let s = h (j - m) (omega (arith, k)) in
      let e : m + (j - m) ≡ j = omega (arith, k) in
      (s.0, ap (bucket g.entries) (ap (bucket_at g.capacity index) (sym e) ∙ sym (on_from g.capacity index m (j - m))) ∙ s.1)
]

-- a search that has come so far, past set buckets alone
pub record Passed (g : Gen) (hash index passes : ℕ) : Type 0 where
  pub steps : ℕ
  pub here : index ≡ bucket_at g.capacity hash steps
  pub far : passes ≤ steps
  pub below : index < g.capacity
  pub set : AllSet g hash steps

-- an empty place lies no nearer than the set buckets that were passed
pub not_passed : (g : Gen) (hash n : ℕ) → bucket g.entries (first_empty g hash) ≡ None → AllSet g hash n → n ≤ (ends g.capacity hash 0 (length g.entries) g.entries).steps
not_passed g hash n h f =
    let e = ends g.capacity hash 0 (length g.entries) g.entries in
    elim (order e.steps n) [
      | inl k ↦ absurd (let s = f e.steps k in let x : bucket g.entries (bucket_at g.capacity hash e.steps) ≡ None = rw e.there at h in let y : Some s.0 ≡ None = sym s.1 ∙ x in cc)
      | inr o ↦ elim o [ inl q ↦ omega arith | inr k ↦ omega arith ]
    ]

-- a search passes no more buckets than there are entries
pub few_passed : (g : Gen) (hash index passes n : ℕ) → bucket g.entries (first_empty g hash) ≡ None → Passed g hash index passes → AllSet g index n → n ≤ length g.entries
few_passed g hash index passes n h p f =
    let e = ends g.capacity hash 0 (length g.entries) g.entries in
    let l = not_passed g hash (p.steps + n) h (joined g hash p.steps n p.set (subst (λ x. AllSet g x n) p.here f)) in
    let m = e.near in
    omega arith

-- it ends at the first empty bucket
pub ends_there : (g : Gen) (hash index passes : ℕ) → bucket g.entries (first_empty g hash) ≡ None → Passed g hash index passes → bucket g.entries index ≡ None → index ≡ first_empty g hash
ends_there g hash index passes h p n =
    let e = ends g.capacity hash 0 (length g.entries) g.entries in
    let l = not_passed g hash p.steps h p.set in
    elim (order p.steps e.steps) [
      | inl k ↦ absurd (let s = e.set p.steps (omega arith) k in let x : bucket g.entries (bucket_at g.capacity hash p.steps) ≡ None = rw p.here at n in let y : Some s.0 ≡ None = sym s.1 ∙ x in cc)
      | inr o ↦ elim o [ inl q ↦ p.here ∙ ap (bucket_at g.capacity hash) q ∙ sym e.there | inr k ↦ absurd (omega arith) ]
    ]

-- where it passed as many buckets as there are entries too
pub ends_last : (g : Gen) (hash index passes : ℕ) → bucket g.entries (first_empty g hash) ≡ None → Passed g hash index passes → length g.entries ≤ passes → index ≡ first_empty g hash
ends_last g hash index passes h p le =
    let e = ends g.capacity hash 0 (length g.entries) g.entries in
    let l = not_passed g hash p.steps h p.set in
    let m = e.near in
    let f = p.far in
    let q : p.steps ≡ e.steps = omega arith in
    p.here ∙ ap (bucket_at g.capacity hash) q ∙ sym e.there

-- and goes on behind a run
pub passed_on : (g : Gen) (hash index passes n next : ℕ) → Passed g hash index passes → 1 ≤ n → AllSet g index n → next ≡ bucket_at g.capacity index n → Passed g hash next (passes + 1)
passed_on g hash index passes n next p some f e =
    let lt = p.below in
    let far = p.far in
    record {
      steps = p.steps + n;
      here = e ∙ ap (λ x. bucket_at g.capacity x n) p.here ∙ on_from g.capacity hash p.steps n;
      far = omega arith;
      below = rw e (mod_below (index + n) g.capacity (omega arith));
      set = joined g hash p.steps n p.set (subst (λ x. AllSet g x n) p.here f);
    }

-- two runs that the code knows of are one
pub known_runs : (g d : Gen) (capacity index next m n : ℕ) → d ≡ g → capacity ≡ g.capacity → next ≡ bucket_at capacity index m → AllSet d index m → AllSet d next n → AllSet g index (m + n)
known_runs g d capacity index next m n alike e there f h =
    let x : AllSet g index m = subst (λ g. AllSet g index m) alike f in
    let y : AllSet g next n = subst (λ g. AllSet g next n) alike h in
    joined g index m n x (subst (λ x. AllSet g x n) (there ∙ ap (λ c. bucket_at c index m) e) y)
