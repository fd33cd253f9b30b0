-- The sizes of the generations, and how many buckets they have.
use Rattle.std.proofs.Common.{ℕ, zero, suc, ◌≡◌, ◌+◌, ◌-◌, ◌*◌, ◌/◌, ◌^◌, ◌≤◌, ◌++◌, ◌⊎◌, inl, inr, List, [], ◌∷◌, true, false, refl, Option, Some, None, length, sym, ap, arith, ltb, ◌∙◌}
use Rattle.std.specs.Prelude.{option_to_list}
use Rattle.std.specs.List.{slice_get}
use Rattle.table_core.proofs.Weights.{weigh, sum_by-weigh}
use Rattle.table_core.specs.Replies.{Reply, Finished}
use Rattle.table_core.specs.Generations.{Gen, Build, Table, put_in, first_empty, fresh, fill, count, copy_in, last_of, current, change_at, change, next_capacity, copy_on, built}
use Rattle.table_terms.specs.Capacities.{IsFirstCapacity}
use Rattle.table_core.specs.Calls.{Call, starts, holds_shared, holds_owned}
use Rattle.table_core.specs.Machine.{World, empty, place, add_one, begin_growth, Act, Goes}
use Rattle.table_core.specs.History.{placed_by, buckets}
use Rattle.table_core.specs.Steps.{Row, puts, adds, begins_first, begins_next, copies, shows, Opens, opens_insert, opens_lookup, opens_len, opens_walk}
use Rattle.table_core.specs.declared.event.Event.{Event}
use Rattle.table_core.specs.declared.generation.Entry.{Entry}
use Rattle.table_core.specs.declared.call.CallState.{CallState}
use Rattle.table_core.specs.declared.call.Phase.{Phase}
use Rattle.table_core.specs.declared.call.Phase.TheVariants.{AtEmpty, Placed}
use Rattle.table_core.specs.declared.call.Outcome.{Outcome}
use Rattle.table_core.specs.declared.call.Answer.{Answer}
use Rattle.table_core.proofs.Lists.{weigh-append, weigh-set, weigh-ones}
use Rattle.table_core.proofs.Locks.{Locked, weigh-le, moved, more}
use Rattle.std.specs.Prelude.{max}
use Rattle.std.proofs.lemmas.Bool.{ltb-false}
use Rattle.table_core.proofs.Turns.{Turn, rests, opens, takes}
use Rattle.table_core.proofs.Pasts.{append-none}
use Rattle.table_core.proofs.Standing.{fitting, IsLast, CallOk, CallsOk, no_sharer}
use Rattle.table_core.proofs.Facts.{Holding, is_placed, placers, SizesOk, room, Roomy}
use Rattle.table_core.proofs.Contents.{last_change, last_push, stand_at, nothing_built, shares_of, weigh-put_in, entry_of}
use Rattle.table_core.proofs.Within.{gen_after}
use Rattle.table_core.proofs.Contents.{fit_at}
use Rattle.std.specs.Option.{is_some}
use Rattle.std.proofs.Math.Nat.{pow-succ'}
use Rattle.table_core.specs.Bound.{one_if}

pub placed_shares : (p : Phase) → one_if (is_placed p) ≤ one_if (holds_shared p)
placed_shares Placed = omega arith
placed_shares _ = omega arith

-- while a call holds the lock alone no value waits to be counted
pub no_placers : (w : World) (i : ℕ) (c : Call) → Locked w → slice_get w.calls i ≡ Some c → holds_owned c.state.phase ≡ true → placers w.calls ≡ 0
no_placers w i c l g e = omega (arith, no_sharer w l i c g e, weigh-le (λ (c : Call). one_if (is_placed c.state.phase)) (λ (c : Call). one_if (holds_shared c.state.phase)) (λ c. placed_shares c.state.phase) w.calls)

pub length-put_in : (e : Entry) (es : List Entry) → length (put_in e es) ≡ suc (length es)
length-put_in e es = omega (arith, weigh-put_in (λ x. 1) e es, weigh-ones (put_in e es), weigh-ones es)

pub place_building : (t : Table) (s : CallState) (v : Option ℕ) → (place t s v).building ≡ t.building
place_building t s None = refl
place_building t s (Some v) = refl

-- a call moves where no generation changes
pub size_same : (w : World) (n : ℕ) → n ≡ placers w.calls → SizesOk w → (g : Gen) → current w.table ≡ Some g → g.size + n ≡ length g.entries
size_same w n e o g h = omega (arith, o.counted g h)

pub size_place : (w : World) (c : Call) (v : Option ℕ) (n : ℕ) → n ≡ placers w.calls + length (option_to_list v) → IsLast (length w.table.gens) c.state.walked → SizesOk w → (g : Gen) → current (place w.table c.state v) ≡ Some g → g.size + n ≡ length g.entries
size_place w c None n e l o g h = omega (arith, o.counted g h)
size_place w c (Some v) n e l o g h =
    let q = last_change w.table.gens c.state.walked (λ g. fill g (entry_of c.state v)) l in
    let x : fill q.0 (entry_of c.state v) ≡ g = cc in
    rw (← x) (omega (arith, o.counted q.0 q.1, length-put_in (entry_of c.state v) q.0.entries))

pub size_add : (w : World) (c : Call) (n : ℕ) → suc n ≡ placers w.calls → IsLast (length w.table.gens) c.state.walked → SizesOk w → (g : Gen) → current (add_one w.table c.state) ≡ Some g → g.size + n ≡ length g.entries
size_add w c n e l o g h =
    let q = last_change w.table.gens c.state.walked count l in
    let x : count q.0 ≡ g = cc in
    rw (← x) (omega (arith, o.counted q.0 q.1))

pub size_show : (w : World) (n : ℕ) (b : Option Build) → w.table.building ≡ b → n ≡ 0 → placers w.calls ≡ 0 → SizesOk w → (g : Gen) → last_of (w.table.gens ++ built b) ≡ Some g → g.size + n ≡ length g.entries
size_show w n None k e z o g h = let h2 : current w.table ≡ Some g = rw append-none at h in omega (arith, o.counted g h2)
size_show w n (Some b) k e z o g h = let x : b.gen ≡ g = (let y : Some b.gen ≡ Some g = sym (last_push w.table.gens b.gen) ∙ h in cc) in rw (← x) (omega (arith, o.built b k))

pub built_copy : (w : World) (e : Entry) (k : ℕ) (b : Option Build) → w.table.building ≡ b → SizesOk w → (d : Build) → copy_on b e k ≡ Some d → d.gen.size ≡ length d.gen.entries
built_copy w e k None h o d q = absurd (cc)
built_copy w e k (Some b) h o d q =
    let x : record { gen = copy_in b.gen e (first_empty b.gen k); copied = b.copied + 1 } ≡ d = cc in
    rw (← x, length-put_in) (omega (arith, o.built b h))

-- a put is of a call that has a value
pub one_value : (v : Option ℕ) (o : Outcome) → fitting (is_some v) AtEmpty o ≡ true → length (option_to_list v) ≡ 1
one_value None o h = absurd (cc)
one_value (Some v) o h = refl

pub size_row : (w : World) (i : ℕ) (c : Call) (n : ℕ) {p : Phase} {x : Event} {a : Answer} {r : CallState} {ls : List ℕ} {t : Table} {q : Option Reply} → Row w c p x a r ls t q → c.state.phase ≡ p → slice_get w.calls i ≡ Some c → n + one_if (is_placed p) ≡ placers w.calls + one_if (is_placed r.phase) → Locked w → CallOk (length w.table.gens) c → SizesOk w → (g : Gen) → current t ≡ Some g → g.size + n ≡ length g.entries
size_row w i c n (puts _ _ _) e s m l k o = size_place w c c.value n (omega (arith, one_value c.value c.state.outcome (fit_at c _ AtEmpty k e))) (stand_at c _ AtEmpty k e refl) o
size_row w i c n (adds _) e s m l k o = size_add w c n (omega arith) (stand_at c _ Placed k e refl) o
size_row w i c n (shows _ _) e s m l k o = size_show w n w.table.building refl (omega (arith, no_placers w i c l s (ap holds_owned e))) (no_placers w i c l s (ap holds_owned e)) o
size_row w i c n _ e s m l k o = size_same w n (omega arith) o

pub built_row : (w : World) (c : Call) {p : Phase} {x : Event} {a : Answer} {r : CallState} {ls : List ℕ} {t : Table} {q : Option Reply} → Row w c p x a r ls t q → SizesOk w → (b : Build) → t.building ≡ Some b → b.gen.size ≡ length b.gen.entries
built_row w c (puts _ _ _) o b h = o.built b (sym (place_building w.table c.state c.value) ∙ h)
built_row w c (begins_first _ _) o b h = let x : record { gen = fresh (next_capacity w.table.first (current w.table)); copied = 0 } ≡ b = cc in rw (← x) refl
built_row w c (begins_next _ _ _ _ _) o b h = let x : record { gen = fresh (next_capacity w.table.first (current w.table)); copied = 0 } ≡ b = cc in rw (← x) refl
built_row w c (copies _ k e _) o b h = built_copy w e k w.table.building refl o b h
built_row w c (shows _ _) o b h = absurd (cc)
built_row w c _ o b h = o.built b h

pub begin_placed : {x : Event} {n : ℕ} {v : Option ℕ} {p : Phase} {h : ℕ} → Opens x n v p h → one_if (is_placed p) ≡ 0
begin_placed (opens_insert n v h) = refl
begin_placed (opens_lookup n h) = refl
begin_placed (opens_len n) = refl
begin_placed (opens_walk n) = refl

pub size_within : (g : Gen) (n : ℕ) → g.size + n ≡ length g.entries → g.size ≤ length g.entries
size_within g n h = omega arith

pub keeps_sized : {w v : World} {x : Event} {a : Option Act} {r : Option Finished} → Turn w x a v r → Locked w → CallsOk w → SizesOk w → SizesOk v
keeps_sized rests l k o = o
keeps_sized {w = w} (opens n v p h r b u f) l k o = record { counted = λ g q. omega (arith, o.counted g q, more (λ p. one_if (is_placed p)) w.calls (starts n v p h), begin_placed b); built = o.built; within = o.within }
keeps_sized {w = w} (takes i c p a s list t o g e row nu) l k z =
    let counts = size_row w i c _ row e g (moved (λ p. one_if (is_placed p)) w.calls i c p list s g e) l (k.at i c g) z in
    record {
      counted = counts;
      built = built_row w c row z;
      within = λ j d y. elim (gen_after w c row e (k.at i c g) j d y) [ inl q ↦ z.within j d q | inr q ↦ size_within d _ (counts d q) ];
    }

pub sized_empty : (first : ℕ) → SizesOk (empty first)
sized_empty first = record { counted = λ g h. absurd (cc); built = λ b h. absurd (cc); within = λ k g h. absurd (cc) }

-- Buckets

pub room_push : (gens : List Gen) (g : Gen) → room (gens ++ g ∷ []) ≡ room gens + g.capacity
room_push gens g = omega (arith, weigh-append (λ (g : Gen). g.capacity) gens (g ∷ []))

pub room_set : (gens : List Gen) (k : ℕ) (o : Option Gen) (f : Gen → Gen) → ((g : Gen) → (f g).capacity ≡ g.capacity) → slice_get gens k ≡ o → room (change_at gens k o f) ≡ room gens
room_set gens k None f e h = refl
room_set gens k (Some g) f e h = omega (arith, e g, weigh-set (λ (g : Gen). g.capacity) gens k g (f g) h)

pub room_change : (gens : List Gen) (w : Option ℕ) (f : Gen → Gen) → ((g : Gen) → (f g).capacity ≡ g.capacity) → room (change gens w f) ≡ room gens
room_change gens None f e = refl
room_change gens (Some k) f e = room_set gens k (slice_get gens k) f e refl

pub less : (c f m n : ℕ) → m ≤ n → (c ≡ f) ⊎ (c ≤ 4 * m) → (c ≡ f) ⊎ (c ≤ 4 * n)
less c f m n h (inl e) = inl e
less c f m n h (inr e) = inr (omega arith)

-- a write to the current generation that leaves its capacity
pub roomy_change : (w : World) (c : Call) (t : Table) (f : Gen → Gen) (m n : ℕ) → m ≤ n → t ≡ record w.table { gens = change w.table.gens c.state.walked f } → ((g : Gen) → (f g).capacity ≡ g.capacity) → w.table.building ≡ None → IsLast (length w.table.gens) c.state.walked → Roomy w.table m → Roomy t n
roomy_change w c t f m n le e same nb l o =
    let q = last_change w.table.gens c.state.walked f l in
    let r : room (change w.table.gens c.state.walked f) ≡ room w.table.gens = room_change w.table.gens c.state.walked f same in
    let p = o.now q.0 q.1 in
    rw e (record {
      even = o.even;
      begun = λ b x y. absurd (cc);
      now = λ g x. let y : f q.0 ≡ g = cc in rw (← y, r, same) (p.0, less q.0.capacity w.table.first m n le p.1, p.2);
      next = λ g b x y. absurd (cc);
      none = λ x. absurd (cc);
    })

pub half : (c m s n : ℕ) → c ≡ 2 * m → ltb s (c / 2) ≡ false → s ≤ n → c ≤ 2 * n
half c m s n e h l = let q : c / 2 ≤ s = ltb-false s (c / 2) h in omega arith

pub roomy_begin : (t : Table) (n : ℕ) (o : Option Gen) → current t ≡ o → ((g : Gen) → o ≡ Some g → g.capacity ≤ 2 * n) → Roomy t n → Roomy (begin_growth t) n
roomy_begin t n None h f r = record {
  even = r.even;
  begun = λ b x y. let z : record { gen = fresh (next_capacity t.first (current t)); copied = 0 } ≡ b = cc in rw (← z, h) (refl, r.none h);
  now = λ g x. absurd (cc);
  next = λ g b x y. absurd (cc);
  none = r.none;
}
roomy_begin t n (Some g) h f r = record {
  even = r.even;
  begun = λ b x y. absurd (cc);
  now = r.now;
  next = λ d b x y. let z : record { gen = fresh (next_capacity t.first (current t)); copied = 0 } ≡ b = cc in let e : g ≡ d = cc in rw (← z, h, ← e) (refl, f g refl);
  none = r.none;
}

pub copied_from : (o : Option Build) (e : Entry) (k : ℕ) (d : Build) → copy_on o e k ≡ Some d → (b : Build) × (o ≡ Some b) × (d.gen.capacity ≡ b.gen.capacity)
copied_from None e k d h = absurd (cc)
copied_from (Some b) e k d h = let x : record { gen = copy_in b.gen e (first_empty b.gen k); copied = b.copied + 1 } ≡ d = cc in (b, refl, rw (← x) refl)

pub roomy_copy : (t : Table) (e : Entry) (k n : ℕ) → Roomy t n → Roomy (record t { building = copy_on t.building e k }) n
roomy_copy t e k n r = record {
  even = r.even;
  begun = λ d x y. let q = copied_from t.building e k d x in rw q.2 (r.begun q.0 q.1 y);
  now = r.now;
  next = λ g d y x. let q = copied_from t.building e k d x in rw q.2 (r.next g q.0 y q.1);
  none = r.none;
}

pub roomy_show : (t : Table) (n : ℕ) (b : Option Build) (o : Option Gen) → t.building ≡ b → current t ≡ o → Roomy t n → Roomy (record t { gens = t.gens ++ built b; building = None }) n
roomy_show t n None o h k r = rw append-none (record { even = r.even; begun = λ b x y. absurd (cc); now = r.now; next = λ g b x y. absurd (cc); none = r.none })
roomy_show t n (Some b) None h k r = record {
  even = r.even;
  begun = λ b x y. absurd (cc);
  now = λ g x. let y : b.gen ≡ g = (let z : Some b.gen ≡ Some g = sym (last_push t.gens b.gen) ∙ x in cc) in rw (← y, room_push) (omega (arith, r.begun b h k), inl (r.begun b h k).0, (r.even.0, (r.begun b h k).0 ∙ r.even.1));
  next = λ g b x y. absurd (cc);
  none = λ x. absurd (let z : Some b.gen ≡ None = sym (last_push t.gens b.gen) ∙ x in cc);
}
roomy_show t n (Some b) (Some d) h k r = record {
  even = r.even;
  begun = λ b x y. absurd (cc);
  now = λ g x. let y : b.gen ≡ g = (let z : Some b.gen ≡ Some g = sym (last_push t.gens b.gen) ∙ x in cc) in rw (← y, room_push) (omega (arith, (r.now d k).0, r.next d b k h), inr (omega (arith, r.next d b k h)), (d.capacity, (r.next d b k h).0));
  next = λ g b x y. absurd (cc);
  none = λ x. absurd (let z : Some b.gen ≡ None = sym (last_push t.gens b.gen) ∙ x in cc);
}

pub within : (w : World) (m : List ℕ) → SizesOk w → Holding w.table m → (g : Gen) → current w.table ≡ Some g → g.size ≤ length m
within w m o h g e =
    let x : weigh (λ e. 1) g.entries ≡ weigh (λ v. 1) m = rw e at (h.bag (λ v. 1)) in
    omega (arith, x, weigh-ones g.entries, weigh-ones m, o.counted g e)

pub length-more : (m n : List ℕ) → length m ≤ length (m ++ n)
length-more m n = omega (arith, weigh-ones m, weigh-ones (m ++ n), weigh-append (λ (v : ℕ). 1) m n)

pub roomy_place : (w : World) (c : Call) (v : Option ℕ) (m : List ℕ) → w.table.building ≡ None → IsLast (length w.table.gens) c.state.walked → Roomy w.table (length m) → Roomy (place w.table c.state v) (length (m ++ option_to_list v))
roomy_place w c None m n l o = rw append-none o
roomy_place w c (Some v) m n l o = roomy_change w c _ (λ g. fill g (entry_of c.state v)) _ _ (length-more m _) refl (λ g. refl) n l o

pub roomy_row : (w : World) (i : ℕ) (c : Call) (m : List ℕ) {p : Phase} {x : Event} {a : Answer} {r : CallState} {ls : List ℕ} {t : Table} {q : Option Reply} → Row w c p x a r ls t q → c.state.phase ≡ p → slice_get w.calls i ≡ Some c → Locked w → CallOk (length w.table.gens) c → SizesOk w → Holding w.table m → Roomy w.table (length m) → Roomy t (length (m ++ placed_by (Some (Goes c a))))
roomy_row w i c m (puts _ _ _) e s l k z h o = roomy_place w c c.value m (nothing_built w l i c s (shares_of _ _ e refl)) (stand_at c _ AtEmpty k e refl) o
roomy_row w i c m (adds _) e s l k z h o = rw append-none (roomy_change w c _ count _ _ (omega arith) refl (λ g. refl) (nothing_built w l i c s (shares_of _ _ e refl)) (stand_at c _ Placed k e refl) o)
roomy_row w i c m (begins_first _ x) e s l k z h o = rw append-none (roomy_begin w.table (length m) None x (λ g q. absurd (cc)) o)
roomy_row w i c m (begins_next _ g x y v) e s l k z h o = rw append-none (roomy_begin w.table (length m) (Some g) x (λ d q. let t : g ≡ d = cc in rw (← t) (half g.capacity (o.now g x).2.0 g.size (length m) (o.now g x).2.1 y (within w m z h g x))) o)
roomy_row w i c m (copies _ k2 e2 _) e s l k z h o = rw append-none (roomy_copy w.table e2 k2 (length m) o)
roomy_row w i c m (shows _ _) e s l k z h o = rw append-none (roomy_show w.table (length m) w.table.building (current w.table) refl refl o)
roomy_row w i c m _ e s l k z h o = rw append-none o

pub keeps_roomy : {w v : World} {x : Event} {a : Option Act} {r : Option Finished} (m : List ℕ) → Turn w x a v r → Locked w → CallsOk w → SizesOk w → Holding w.table m → Roomy w.table (length m) → Roomy v.table (length (m ++ placed_by a))
keeps_roomy m rests l k z h o = rw append-none o
keeps_roomy m (opens n v p q r b u f) l k z h o = rw append-none o
keeps_roomy {w = w} m (takes i c p a s list t o g e row nu) l k z h q = roomy_row w i c m row e g l (k.at i c g) z h q

-- the bound
pub bounded : (t : Table) (n : ℕ) → Roomy t n → (o : Option Gen) (b : Option Build) → current t ≡ o → t.building ≡ b → (room t.gens + weigh (λ b. b.gen.capacity) (option_to_list b) ≤ t.first) ⊎ (room t.gens + weigh (λ b. b.gen.capacity) (option_to_list b) + t.first ≤ 8 * n)
bounded t n r None None h k = inl (omega (arith, r.none h))
bounded t n r None (Some b) h k = inl (omega (arith, r.begun b k h))
bounded t n r (Some g) None h k = elim (r.now g h).1 [ inl e ↦ inl (omega (arith, (r.now g h).0)) | inr e ↦ inr (omega (arith, (r.now g h).0)) ]
bounded t n r (Some g) (Some b) h k = inr (omega (arith, (r.now g h).0, r.next g b h k))

pub under : (x f n : ℕ) → (x ≤ f) ⊎ (x + f ≤ 8 * n) → x ≤ max f (8 * n - f)
under x f n (inl h) = omega arith
under x f n (inr h) = omega arith

pub few_buckets_at : (t : Table) (n : ℕ) → Roomy t n → buckets t ≤ max t.first (8 * n - t.first)
few_buckets_at t n r = rw (sum_by-weigh, sum_by-weigh) (under _ _ _ (bounded t n r (current t) t.building refl refl))

-- Powers of two

even_power : (k f : ℕ) → f ≡ 2 ^ k → 16 ≤ f → (m : ℕ) × (f ≡ 2 * m)
even_power zero f e le = absurd (omega (arith, e, le))
even_power (suc k) f e le = (2 ^ k, e ∙ pow-succ' 2 k)

pub even_first : (f : ℕ) → IsFirstCapacity f → (m : ℕ) × (f ≡ 2 * m)
even_first f h = even_power h.0.0 f h.0.1 h.1

pub roomy_empty : (first : ℕ) → IsFirstCapacity first → Roomy (empty first).table 0
roomy_empty first h = record { even = even_first first h; begun = λ b x y. absurd (cc); now = λ g x. absurd (cc); next = λ g b x y. absurd (cc); none = λ x. refl }

-- the first capacity stays

pub place_first : (t : Table) (s : CallState) (v : Option ℕ) → (place t s v).first ≡ t.first
place_first t s None = refl
place_first t s (Some v) = refl

pub first_row : (w : World) (c : Call) {p : Phase} {x : Event} {a : Answer} {r : CallState} {ls : List ℕ} {t : Table} {q : Option Reply} → Row w c p x a r ls t q → t.first ≡ w.table.first
first_row w c (puts _ _ _) = place_first w.table c.state c.value
first_row w c _ = refl

pub same_first : {w v : World} {x : Event} {a : Option Act} {r : Option Finished} → Turn w x a v r → v.table.first ≡ w.table.first
same_first rests = refl
same_first (opens _ _ _ _ _ _ _ _) = refl
same_first {w = w} (takes i c p a s list t o g e row nu) = first_row w c row
