-- What the generations hold.
use Rattle.std.proofs.Common.{eqb-true, ℕ, suc, zero, ◌≡◌, ◌+◌, ◌-◌, ◌<◌, ◌≤◌, ◌++◌, ◌⊎◌, inl, inr, List, [], ◌∷◌, Bool, true, false, refl, Option, Some, None, length, ap, arith, eqb, take, ◌∙◌}
use Rattle.std.specs.Prelude.{nat_lt, if◌then◌else◌, option_to_list}
use Rattle.std.specs.List.{slice_get}
use Rattle.table_core.proofs.Weights.{weigh}
use Rattle.table_core.specs.Replies.{Reply, Finished}
use Rattle.table_core.specs.Generations.{Gen, Build, Table, bucket, put_in, first_empty, fresh, fill, count, copy_in, last_of, current, change_at, change, next_capacity, entries_of, entry_left, next_copied, copy_on, built}
use Rattle.table_terms.specs.Hashes.{bits_of}
use Rattle.table_core.specs.Phases.{stands}
use Rattle.table_core.specs.Calls.{Call, holds_shared}
use Rattle.table_core.specs.Machine.{World, empty, bucket_of, place, add_one, begin_growth, show_built, Act, Goes}
use Rattle.table_core.specs.History.{placed_by}
use Rattle.table_core.specs.Steps.{Row, puts, adds, begins_first, begins_next, copies, shows}
use Rattle.table_core.specs.declared.event.Event.{Event}
use Rattle.table_core.specs.declared.generation.Entry.{Entry}
use Rattle.table_core.specs.declared.call.CallState.{CallState}
use Rattle.table_core.specs.declared.call.Phase.{Phase}
use Rattle.table_core.specs.declared.call.Phase.TheVariants.{AtEmpty, Placed}
use Rattle.table_core.specs.declared.call.Answer.{Answer}
use Rattle.table_core.proofs.Lists.{weigh-append, weigh-get, get-set_same, get-set_other, get-push_before, get-push_last, length-push, weigh-take_more}
use Rattle.table_core.proofs.Locks.{Locked, nobody, alone, sharers, built_count, more}
use Rattle.std.proofs.Common.{add-one}
use Rattle.std.proofs.lemmas.Bool.{eq-eqb}
use Rattle.std.specs.Option.{is_some}
use Rattle.table_core.specs.Bound.{one_if}
use Rattle.table_core.proofs.Turns.{Turn, rests, opens, takes}
use Rattle.table_core.proofs.Pasts.{append-none}
use Rattle.table_core.proofs.Standing.{fitting, IsLast, CallOk, CallsOk, length-change}
use Rattle.table_core.proofs.Facts.{values, In, Holding, Grew, AllGrew}
use Rattle.std.proofs.lemmas.Bool.{false_from_ne_true}

pub put_in_at : (f : Entry → ℕ) (e x : Entry) (xs : List Entry) (b : Bool) → weigh f (put_in e xs) ≡ f e + weigh f xs → weigh f (if b then e ∷ x ∷ xs else x ∷ put_in e xs) ≡ f e + (f x + weigh f xs)
put_in_at f e x xs true h = refl
put_in_at f e x xs false h = omega arith

pub weigh-put_in : (f : Entry → ℕ) (e : Entry) (es : List Entry) → weigh f (put_in e es) ≡ f e + weigh f es
weigh-put_in f e [] = refl
weigh-put_in f e (x ∷ xs) = put_in_at f e x xs (nat_lt e.index x.index) (weigh-put_in f e xs)

pub take-past : (es : List Entry) (k : ℕ) → slice_get es k ≡ None → take k es ≡ es
take-past [] zero h = refl
take-past [] (suc k) h = refl
take-past (x ∷ xs) zero h = absurd (cc)
take-past (x ∷ xs) (suc k) h = ap (λ l. x ∷ l) (take-past xs k h)

pub get-within : (gens : List Gen) (k : ℕ) → k < length gens → (g : Gen) × (slice_get gens k ≡ Some g)
get-within [] k h = absurd (omega arith)
get-within (x ∷ xs) zero h = (x, refl)
get-within (x ∷ xs) (suc k) h = get-within xs k (omega arith)

pub change_got : (gens : List Gen) (k : ℕ) (f : Gen → Gen) (o : Option Gen) (g : Gen) → slice_get gens k ≡ o → o ≡ Some g → slice_get (change_at gens k o f) k ≡ Some (f g)
change_got gens k f None g h e = absurd (cc)
change_got gens k f (Some x) g h e = let q : x ≡ g = cc in rw q (get-set_same gens k x (f g) h)

-- a change to the generation of a call that stands in the current one
pub last_change : (gens : List Gen) (w : Option ℕ) (f : Gen → Gen) → IsLast (length gens) w → (g : Gen) × (last_of gens ≡ Some g) × (last_of (change gens w f) ≡ Some (f g))
last_change gens None f l = let e : None ≡ Some l.0 = l.1 in absurd (cc)
last_change gens (Some k) f l =
    let e : k ≡ l.0 = cc in
    let lt : k < length gens = omega arith in
    let got = get-within gens k lt in
    let last : length gens - 1 ≡ k = omega arith in
    let n : length (change gens (Some k) f) ≡ length gens = length-change gens (Some k) f in
    (got.0, rw last got.1, rw (n, last) (change_got gens k f (slice_get gens k) got.0 refl got.1))

pub last_push : (gens : List Gen) (g : Gen) → last_of (gens ++ g ∷ []) ≡ Some g
last_push gens g = let n : length (gens ++ g ∷ []) - 1 ≡ length gens = omega (arith, length-push gens g) in rw n (get-push_last gens g)

-- What is kept of a set bucket

pub order : (a b : ℕ) → (a < b) ⊎ ((a ≡ b) ⊎ (b < a))
order zero zero = inr (inl refl)
order zero (suc b) = inl (omega arith)
order (suc a) zero = inr (inr (omega arith))
order (suc a) (suc b) = elim (order a b) [ inl h ↦ inl (omega arith) | inr h ↦ elim h [ inl e ↦ inr (inl (ap suc e)) | inr e ↦ inr (inr (omega arith)) ] ]

pub put_kept_at : (e d x : Entry) (xs : List Entry) (i : ℕ) (b c : Bool) → nat_lt e.index x.index ≡ b → eqb x.index i ≡ c → (eqb e.index i ≡ true → ⊥) → (bucket (put_in e xs) i ≡ bucket xs i) → bucket (if b then e ∷ x ∷ xs else x ∷ put_in e xs) i ≡ bucket (x ∷ xs) i
put_kept_at e d x xs i true c h k n q = rw (false_from_ne_true _ n) refl
put_kept_at e d x xs i false true h k n q = rw k refl
put_kept_at e d x xs i false false h k n q = rw k q

pub put_kept : (e : Entry) (es : List Entry) (i : ℕ) → (eqb e.index i ≡ true → ⊥) → bucket (put_in e es) i ≡ bucket es i
put_kept e [] i n = rw (false_from_ne_true _ n) refl
put_kept e (x ∷ xs) i n = put_kept_at e x x xs i _ _ refl refl n (put_kept e xs i n)

pub tail_none : (x : Entry) (xs : List Entry) (i : ℕ) (b : Bool) → eqb x.index i ≡ b → bucket (x ∷ xs) i ≡ None → (b ≡ false) × (bucket xs i ≡ None)
tail_none x xs i true h n = absurd (let k : Some x ≡ None = rw h at n in cc)
tail_none x xs i false h n = (refl, rw h at n)

pub put_new_at : (e x : Entry) (xs : List Entry) (b : Bool) → nat_lt e.index x.index ≡ b → eqb e.index e.index ≡ true → eqb x.index e.index ≡ false → bucket (put_in e xs) e.index ≡ Some e → bucket (if b then e ∷ x ∷ xs else x ∷ put_in e xs) e.index ≡ Some e
put_new_at e x xs true h s n q = rw s refl
put_new_at e x xs false h s n q = rw n q

pub put_new : (e : Entry) (es : List Entry) → bucket es e.index ≡ None → bucket (put_in e es) e.index ≡ Some e
put_new e [] n = rw (eq-eqb e.index e.index refl) refl
put_new e (x ∷ xs) n = let t = tail_none x xs e.index _ refl n in put_new_at e x xs _ refl (eq-eqb e.index e.index refl) t.0 (put_new e xs t.1)

pub in_put_at : (d e x : Entry) (xs : List Entry) (b : Bool) → (In d (put_in e xs) → (e ≡ d) ⊎ In d xs) → In d (if b then e ∷ x ∷ xs else x ∷ put_in e xs) → (e ≡ d) ⊎ ((x ≡ d) ⊎ In d xs)
in_put_at d e x xs true f h = h
in_put_at d e x xs false f (inl h) = inr (inl h)
in_put_at d e x xs false f (inr h) = elim (f h) [ inl k ↦ inl k | inr k ↦ inr (inr k) ]

pub in_put : (d e : Entry) (es : List Entry) → In d (put_in e es) → (e ≡ d) ⊎ In d es
in_put d e [] h = h
in_put d e (x ∷ xs) h = in_put_at d e x xs (nat_lt e.index x.index) (in_put d e xs) h

pub eqb_index : (a b : ℕ) → eqb a b ≡ true → a ≡ b
eqb_index a b h = eqb-true a b h

pub put_stays : (e d : Entry) (es : List Entry) (i : ℕ) → bucket es e.index ≡ None → bucket es i ≡ Some d → bucket (put_in e es) i ≡ Some d
put_stays e d es i n h = put_kept e es i (λ q. let s : e.index ≡ i = eqb_index e.index i q in let m : bucket es i ≡ None = rw s at n in cc) ∙ h

pub in_bucket_at : (e x : Entry) (xs : List Entry) (i : ℕ) (b : Bool) → eqb x.index i ≡ b → (bucket xs i ≡ Some e → In e xs) → bucket (x ∷ xs) i ≡ Some e → In e (x ∷ xs)
in_bucket_at e x xs i true h f k = inl (let q : Some x ≡ Some e = rw h at k in cc)
in_bucket_at e x xs i false h f k = inr (f (rw h at k))

pub in_bucket : (e : Entry) (es : List Entry) (i : ℕ) → bucket es i ≡ Some e → In e es
in_bucket e [] i h = absurd (cc)
in_bucket e (x ∷ xs) i h = in_bucket_at e x xs i _ refl (in_bucket e xs i) h

pub in_get : (e : Entry) (es : List Entry) (i : ℕ) → slice_get es i ≡ Some e → In e es
in_get e [] i h = absurd (cc)
in_get e (x ∷ xs) zero h = inl (cc)
in_get e (x ∷ xs) (suc i) h = inr (in_get e xs i h)

-- Generations grow

pub weigh-fill : (h : ℕ → ℕ) (g : Gen) (e : Entry) → values h g.entries ≤ values h (fill g e).entries
weigh-fill h g e = omega (arith, weigh-put_in (λ e. h e.value) e g.entries)

pub grew_same : (g : Gen) → Grew g g
grew_same g = record { capacity = refl; size = omega arith; kept = λ i e h. h; more = λ h. omega arith }

pub grew_fill : (g : Gen) (e : Entry) → bucket g.entries e.index ≡ None → Grew g (fill g e)
grew_fill g e n = record { capacity = refl; size = omega arith; kept = λ i d q. put_stays e d g.entries i n q; more = λ h. weigh-fill h g e }

pub grew_count : (g : Gen) → Grew g (count g)
grew_count g = record { capacity = refl; size = omega arith; kept = λ i d q. q; more = λ h. omega arith }

pub grew_on : (g h k : Gen) → Grew g h → Grew h k → Grew g k
grew_on g h k a b = record { capacity = b.capacity ∙ a.capacity; size = omega (arith, a.size, b.size); kept = λ i e q. b.kept i e (a.kept i e q); more = λ f. omega (arith, a.more f, b.more f) }

pub same_grew : (gens : List Gen) → AllGrew gens gens
same_grew gens = record { each = λ k g h. (g, h, grew_same g) }

pub push_grew : (gens more : List Gen) → AllGrew gens (gens ++ more)
push_grew gens more = record { each = λ k g h. (g, get-push_before gens more k g h, grew_same g) }

pub same_number : (a b : ℕ) → (a ≡ b) ⊎ (a ≡ b → ⊥)
same_number a b = elim (order a b) [ inl h ↦ inr (λ e. omega arith) | inr h ↦ elim h [ inl e ↦ inl e | inr k ↦ inr (λ e. omega arith) ] ]

pub set_grew_at : (gens : List Gen) (k : ℕ) (f : Gen → Gen) (o : Option Gen) → slice_get gens k ≡ o → ((g : Gen) → o ≡ Some g → Grew g (f g)) → AllGrew gens (change_at gens k o f)
set_grew_at gens k f None h q = same_grew gens
set_grew_at gens k f (Some g) h q = record {
  each = λ j d e. elim (same_number k j) [
    | inl s ↦ (let x : slice_get gens k ≡ Some d = rw s e in let y : g ≡ d = cc in (f g, rw (← s) (get-set_same gens k g (f g) h), rw (← y) (q g refl)))
    | inr n ↦ (d, rw get-set_other e, grew_same d)
  ];
}

pub change_grew : (gens : List Gen) (w : Option ℕ) (f : Gen → Gen) → ((k : ℕ) (g : Gen) → w ≡ Some k → slice_get gens k ≡ Some g → Grew g (f g)) → AllGrew gens (change gens w f)
change_grew gens None f q = same_grew gens
change_grew gens (Some k) f q = set_grew_at gens k f (slice_get gens k) refl (λ g h. q k g refl h)

-- the bucket of a call that is empty
pub bucket_none : (t : Table) (s : CallState) (k : ℕ) (g : Gen) → s.walked ≡ Some k → slice_get t.gens k ≡ Some g → bucket_of t s ≡ None → bucket g.entries s.index ≡ None
bucket_none t s k g e h n = rw (e, h) at n

pub bucket_some : (t : Table) (s : CallState) (k : ℕ) (g : Gen) (d : Entry) → s.walked ≡ Some k → slice_get t.gens k ≡ Some g → bucket_of t s ≡ Some d → bucket g.entries s.index ≡ Some d
bucket_some t s k g d e h n = rw (e, h) at n

-- what a call puts into its bucket
abbrev pub entry_of : CallState → ℕ → Entry
entry_of s v = record { index = s.index; value = v; bits = bits_of s.hash }

pub place_grew : (t : Table) (s : CallState) (v : Option ℕ) → bucket_of t s ≡ None → AllGrew t.gens (place t s v).gens
place_grew t s None n = same_grew t.gens
place_grew t s (Some v) n = change_grew t.gens s.walked (λ g. fill g (entry_of s v)) (λ k g e h. grew_fill g (entry_of s v) (bucket_none t s k g e h n))

-- no turn takes an entry out of a generation
pub row_grew : (w : World) (c : Call) {p : Phase} {x : Event} {a : Answer} {r : CallState} {ls : List ℕ} {t : Table} {q : Option Reply} → Row w c p x a r ls t q → AllGrew w.table.gens t.gens
row_grew w c (puts _ _ n) = place_grew w.table c.state c.value n
row_grew w c (adds _) = change_grew w.table.gens c.state.walked count (λ k g e h. grew_count g)
row_grew w c (shows _ _) = push_grew w.table.gens _
row_grew w c _ = same_grew w.table.gens

pub turn_grew : {w v : World} {x : Event} {a : Option Act} {r : Option Finished} → Turn w x a v r → AllGrew w.table.gens v.table.gens
turn_grew {w = w} rests = same_grew w.table.gens
turn_grew {w = w} (opens n v p h r k u f) = same_grew w.table.gens
turn_grew {w = w} (takes i c p a s list t o g e row nu) = row_grew w c row

-- The current generation holds what was placed

pub not_built : (b : Option Build) → built_count b ≡ 0 → b ≡ None
not_built None h = refl
not_built (Some b) h = absurd (omega arith)

-- a call that shares the lock: nothing is being built
pub nothing_built : (w : World) → Locked w → (i : ℕ) (c : Call) → slice_get w.calls i ≡ Some c → holds_shared c.state.phase ≡ true → w.table.building ≡ None
nothing_built w l i c h e =
    let b : one_if (holds_shared c.state.phase) ≤ sharers w.calls = weigh-get (λ (c : Call). one_if (holds_shared c.state.phase)) w.calls i c h in
    let b1 : 1 ≤ sharers w.calls = rw e at b in
    elim l.alone [ nobody x y z ↦ not_built w.table.building (omega (arith, l.building)) | alone x y z q ↦ absurd (omega arith) ]

pub hold_put : (w : World) (m : List ℕ) (c : Call) (v : Option ℕ) → w.table.building ≡ None → IsLast (length w.table.gens) c.state.walked → Holding w.table m → Holding (place w.table c.state v) (m ++ option_to_list v)
hold_put w m c None n l o = rw append-none o
hold_put w m c (Some v) n l o =
    let q = last_change w.table.gens c.state.walked (λ g. fill g (entry_of c.state v)) l in
    record {
      bag = λ h.
          let e : values h q.0.entries ≡ weigh h m = rw q.1 at (o.bag h) in
          rw q.2 (omega (arith, e, weigh-put_in (λ e. h e.value) (entry_of c.state v) q.0.entries, weigh-append h m (v ∷ [])));
      copied = λ b e. absurd (cc);
    }

pub hold_count : (w : World) (m : List ℕ) (c : Call) → w.table.building ≡ None → IsLast (length w.table.gens) c.state.walked → Holding w.table m → Holding (add_one w.table c.state) m
hold_count w m c n l o =
    let q = last_change w.table.gens c.state.walked count l in
    record {
      bag = λ h. let e : values h q.0.entries ≡ weigh h m = rw q.1 at (o.bag h) in rw q.2 e;
      copied = λ b e. absurd (cc);
    }

pub nothing_taken : (h : ℕ → ℕ) (es : List Entry) → 0 ≡ values h (take 0 es)
nothing_taken h [] = refl
nothing_taken h (x ∷ es) = refl

pub hold_begin : (t : Table) (m : List ℕ) → Holding t m → Holding (begin_growth t) m
hold_begin t m o = record {
  bag = o.bag;
  copied = λ b e h. let q : record { gen = fresh (next_capacity t.first (current t)); copied = 0 } ≡ b = cc in rw (← q) (nothing_taken h (entries_of (current t)));
}

pub hold_copy_at : (t : Table) (m : List ℕ) (e : Entry) (k : ℕ) (es : List Entry) (b : Option Build) → entries_of (current t) ≡ es → t.building ≡ b → entry_left es b ≡ Some e → Holding t m → (d : Build) → copy_on b e k ≡ Some d → (h : ℕ → ℕ) → values h d.gen.entries ≡ values h (take d.copied es)
hold_copy_at t m e k es None c j n o d q h = absurd (cc)
hold_copy_at t m e k es (Some b) c j n o d q h =
    let x : record { gen = copy_in b.gen e (first_empty b.gen k); copied = b.copied + 1 } ≡ d = cc in
    let y : values h b.gen.entries ≡ values h (take b.copied es) = rw c at (o.copied b j h) in
    rw (← x, add-one) (omega (arith, y, weigh-take_more (λ e. h e.value) es b.copied e n, weigh-put_in (λ e. h e.value)))

pub hold_copy : (t : Table) (m : List ℕ) (e : Entry) (k : ℕ) → next_copied t ≡ Some e → Holding t m → Holding (record t { building = copy_on t.building e k }) m
hold_copy t m e k n o = record {
  bag = o.bag;
  copied = λ d q h. hold_copy_at t m e k (entries_of (current t)) t.building refl refl n o d q h;
}

pub hold_show_at : (t : Table) (m : List ℕ) (b : Option Build) → t.building ≡ b → entry_left (entries_of (current t)) b ≡ None → Holding t m → (h : ℕ → ℕ) → values h (entries_of (last_of (t.gens ++ built b))) ≡ weigh h m
hold_show_at t m None k n o h = rw append-none (o.bag h)
hold_show_at t m (Some b) k n o h =
    let e : take b.copied (entries_of (current t)) ≡ entries_of (current t) = take-past (entries_of (current t)) b.copied n in
    let c : values h b.gen.entries ≡ values h (entries_of (current t)) = rw e at (o.copied b k h) in
    rw last_push (c ∙ o.bag h)

pub hold_show : (t : Table) (m : List ℕ) → next_copied t ≡ None → Holding t m → Holding (show_built t) m
hold_show t m n o = record {
  bag = hold_show_at t m t.building refl n o;
  copied = λ d q h. absurd (cc);
}

pub shares_of : (p q : Phase) → p ≡ q → holds_shared q ≡ true → holds_shared p ≡ true
shares_of p q e h = rw e h

pub fit_at : (c : Call) (n : ℕ) (p : Phase) → CallOk n c → c.state.phase ≡ p → fitting (is_some c.value) p c.state.outcome ≡ true
fit_at c n p o e = rw e at o.fits

pub stand_at : (c : Call) (n : ℕ) (p : Phase) → CallOk n c → c.state.phase ≡ p → stands p ≡ true → IsLast n c.state.walked
stand_at c n p o e h = (rw e at o.stands) h

pub hold_row : (w : World) (i : ℕ) (c : Call) (m : List ℕ) {p : Phase} {x : Event} {a : Answer} {r : CallState} {ls : List ℕ} {t : Table} {q : Option Reply} → Row w c p x a r ls t q → c.state.phase ≡ p → slice_get w.calls i ≡ Some c → Locked w → CallOk (length w.table.gens) c → Holding w.table m → Holding t (m ++ placed_by (Some (Goes c a)))
hold_row w i c m (puts _ _ _) e g l k o = hold_put w m c c.value (nothing_built w l i c g (shares_of _ _ e refl)) (stand_at c _ AtEmpty k e refl) o
hold_row w i c m (adds _) e g l k o = rw append-none (hold_count w m c (nothing_built w l i c g (shares_of _ _ e refl)) (stand_at c _ Placed k e refl) o)
hold_row w i c m (begins_first _ _) e g l k o = rw append-none (hold_begin w.table m o)
hold_row w i c m (begins_next _ _ _ _ _) e g l k o = rw append-none (hold_begin w.table m o)
hold_row w i c m (copies _ j x n) e g l k o = rw append-none (hold_copy w.table m x j n o)
hold_row w i c m (shows _ n) e g l k o = rw append-none (hold_show w.table m n o)
hold_row w i c m _ e g l k o = rw append-none o

pub keeps_holding : {w v : World} {x : Event} {a : Option Act} {r : Option Finished} (m : List ℕ) → Turn w x a v r → Locked w → CallsOk w → Holding w.table m → Holding v.table (m ++ placed_by a)
keeps_holding m rests l k o = rw append-none o
keeps_holding m (opens n v p h r b u f) l k o = rw append-none o
keeps_holding {w = w} m (takes i c p a s list t o g e row nu) l k h = hold_row w i c m row e g l (k.at i c g) h

pub holding_empty : (first : ℕ) → Holding (empty first).table []
holding_empty first = record { bag = λ h. refl; copied = λ b e h. absurd (cc) }
