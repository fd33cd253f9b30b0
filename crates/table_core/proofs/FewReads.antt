-- A look-up takes few reads, and a call loads each generation at most once.
use Rattle.std.proofs.Common.{eqb-true, ℕ, suc, zero, ◌≡◌, ◌+◌, ◌≤◌, ◌++◌, inl, inr, List, [], ◌∷◌, Bool, true, false, refl, Option, Some, None, length, sym, subst, ap, arith, ◌∙◌}
use Rattle.std.specs.Prelude.{◌==◌, if◌then◌else◌, slice_set}
use Rattle.std.specs.List.{slice_get}
use Rattle.table_core.specs.Replies.{Reply, Finished}
use Rattle.table_core.specs.Generations.{Table}
use Rattle.table_core.specs.Calls.{Call, starts, is_used}
use Rattle.table_core.specs.Machine.{World, empty, Act, Begins, Goes, acts, after}
use Rattle.table_core.specs.History.{replies, placed_by, placed, is_read, read_by, reads, loaded_by, generations_loaded, begun_by, beginnings}
use Rattle.table_core.specs.Steps.{Row, Opens, looks_none, looks, look_empty, look_meets, look_turns, look_turns_unasked, look_goes_on, look_goes_on_unasked, opens_insert, opens_lookup, opens_len, opens_walk, left}
use Rattle.table_core.specs.declared.event.Event.{Event}
use Rattle.table_core.specs.declared.event.Event.TheVariants.{Lookup}
use Rattle.table_core.specs.declared.call.CallState.{CallState}
use Rattle.table_core.specs.declared.call.Phase.{Phase}
use Rattle.table_core.specs.declared.call.Phase.TheVariants.{LookLoad, LookProbe, Done}
use Rattle.table_core.specs.declared.call.Answer.{Answer}
use Rattle.table_core.specs.declared.call.Answer.TheVariants.{Loaded}
use Rattle.table_core.proofs.Lists.{get-set_same, get-set_other, get-push_before, get-push_last, weigh-ones}
use Rattle.table_core.proofs.Locks.{more}
use Rattle.std.proofs.lemmas.List.{append_assoc, length-append}
use Rattle.std.proofs.lemmas.Bool.{eq-eqb, cases_eq}
use Rattle.table_core.specs.Values.{LookupsReadFew}
use Rattle.table_core.proofs.Turns.{Turn, rests, opens, takes}
use Rattle.table_core.proofs.Facts.{Inv}
use Rattle.table_core.proofs.Seats.{many_buckets}
use Rattle.table_core.proofs.Numbers.{unused_at}
use Rattle.table_core.proofs.Pasts.{turn_after, placed_snoc, reads_snoc, loads_snoc, beginnings_snoc, by_snoc, by_snoc_from}
use Rattle.std.proofs.lemmas.Bool.{cases_Bool, or_parts}

-- Before a call has begun it has read and loaded nothing, and no event begins it

other_number_at : (n m : ℕ) (b : Bool) → (n == m) ≡ b → (n ≡ m → ⊥) → (n == m) ≡ false
other_number_at n m true e h = absurd (h (eqb-true n m e))
other_number_at n m false e h = e

pub other_number : (n m : ℕ) → (n ≡ m → ⊥) → (n == m) ≡ false
other_number n m h = other_number_at n m (n == m) refl h

other_read : (c : Call) (a : Answer) (x : Event) (n : ℕ) → (c.number == n) ≡ false → read_by (Some (Goes c a)) x n ≡ 0
other_read c a x n h = elim (cases_Bool (is_read x)) [ inl y ↦ rw (y, h) refl | inr y ↦ rw y refl ]

pub other_loaded : (c : Call) (a : Answer) (n : ℕ) → (c.number == n) ≡ false → loaded_by (Some (Goes c a)) n ≡ []
other_loaded c (Loaded g k) n h = rw h refl
other_loaded c _ n h = refl

-- a call that is there is used
used_at : (n : ℕ) (cs : List Call) → is_used n cs ≡ false → (i : ℕ) (c : Call) → slice_get cs i ≡ Some c → (c.number == n) ≡ false
used_at n cs u i c g = other_number c.number n (unused_at n cs i c u g)

used_push : (n : ℕ) (cs : List Call) (d : Call) → is_used n (cs ++ d ∷ []) ≡ false → is_used n cs ≡ false
used_push n [] d h = refl
used_push n (c ∷ cs) d h = let o : ((c.number == n) ≡ false) × (is_used n (cs ++ d ∷ []) ≡ false) = or_parts _ _ h in rw (o.0) (used_push n cs d o.1)

used_set : (n : ℕ) (cs : List Call) (i : ℕ) (c d : Call) → slice_get cs i ≡ Some c → d.number ≡ c.number → is_used n (slice_set cs i d) ≡ false → is_used n cs ≡ false
used_set n [] i c d g e h = refl
used_set n (x ∷ cs) zero c d g e h =
    let k : x ≡ c = cc in
    let o : ((d.number == n) ≡ false) × (is_used n cs ≡ false) = or_parts _ _ h in
    let same : x.number ≡ d.number = ap (λ (z : Call). z.number) k ∙ sym e in
    rw (same, o.0) o.1
used_set n (x ∷ cs) (suc i) c d g e h =
    let o : ((x.number == n) ≡ false) × (is_used n (slice_set cs i d) ≡ false) = or_parts _ _ h in
    rw o.0 (used_set n cs i c d g e o.1)

-- what an unused number has done
pub record Nothing (f : ℕ) (s : List Event) (n : ℕ) : Type 0 where
  pub reads : reads (empty f) s n ≡ 0
  pub loads : generations_loaded (empty f) s n ≡ []
  pub begun : beginnings (empty f) s n ≡ []

abbrev pub UnusedDoNothing : ℕ → List Event → World → Type 0
UnusedDoNothing f s v = (n : ℕ) → is_used n v.calls ≡ false → Nothing f s n

nothing_more : (f : ℕ) (s : List Event) (x : Event) (n : ℕ) → Nothing f s n → read_by (acts (after f s) x) x n ≡ 0 → loaded_by (acts (after f s) x) n ≡ [] → begun_by (acts (after f s) x) x n ≡ [] → Nothing f (s ++ x ∷ []) n
nothing_more f s x n o r l b = record {
  reads = omega (arith, reads_snoc f s x n, o.reads, r);
  loads = loads_snoc f s x n ∙ rw (o.loads, l) refl;
  begun = beginnings_snoc f s x n ∙ rw (o.begun, b) refl;
}

-- an event that begins a call begins that call alone
pub begins_other : {x : Event} {m : ℕ} {v : Option ℕ} {p : Phase} {h : ℕ} → Opens x m v p h → (n : ℕ) → (m == n) ≡ false → begun_by (Some (Begins (starts m v p h))) x n ≡ []
begins_other (opens_insert m v h) n e = rw e refl
begins_other (opens_lookup m h) n e = rw e refl
begins_other (opens_len m) n e = rw e refl
begins_other (opens_walk m) n e = rw e refl

pub begins_own : {x : Event} {m : ℕ} {v : Option ℕ} {p : Phase} {h : ℕ} → Opens x m v p h → begun_by (Some (Begins (starts m v p h))) x m ≡ x ∷ []
begins_own (opens_insert m v h) = rw (eq-eqb m m refl) refl
begins_own (opens_lookup m h) = rw (eq-eqb m m refl) refl
begins_own (opens_len m) = rw (eq-eqb m m refl) refl
begins_own (opens_walk m) = rw (eq-eqb m m refl) refl

nothing_turn : (f : ℕ) (s : List Event) (x : Event) {v : World} {a : Option Act} {r : Option Finished} → Turn (after f s) x a v r → acts (after f s) x ≡ a → UnusedDoNothing f s (after f s) → UnusedDoNothing f (s ++ x ∷ []) v
nothing_turn f s x rests took o n u = nothing_more f s x n (o n u) (rw took refl) (rw took refl) (rw took refl)
nothing_turn f s x (opens m v p h ra op us nv) took o n u =
    let d = starts m v p h in
    let other : (m == n) ≡ false = used_at n ((after f s).calls ++ d ∷ []) u (length (after f s).calls) d (get-push_last (after f s).calls d) in
    nothing_more f s x n (o n (used_push n (after f s).calls d u)) (rw took refl) (rw took refl) (rw took (begins_other op n other))
nothing_turn f s x (takes i c p a st list t q g e row nu) took o n u =
    let before : is_used n (after f s).calls ≡ false = used_set n (after f s).calls i c (left c st list) g refl u in
    let other : (c.number == n) ≡ false = used_at n (after f s).calls before i c g in
    nothing_more f s x n (o n before) (rw took (other_read c a x n other)) (rw took (other_loaded c a n other)) (rw took refl)

pub unused_do_nothing : (f : ℕ) (s : List Event) → UnusedDoNothing f s (after f s)
unused_do_nothing f = by_snoc (λ s. UnusedDoNothing f s (after f s)) (λ n u. record { reads = refl; loads = refl; begun = refl }) (λ s x o. nothing_turn f s x (turn_after f s x) refl o)

-- Look-ups

-- what a look-up has read: nothing before its load, then as many buckets as it has seen, and at most one more at its end
abbrev Few : Phase → ℕ → ℕ → ℕ → Type 0
Few LookLoad seen reads n = reads ≡ 0
Few LookProbe seen reads n = reads ≡ seen
Few Done seen reads n = reads ≤ n + 1
Few _ seen reads n = ⊥

few_more : (p : Phase) (seen reads n m : ℕ) → n ≤ m → Few p seen reads n → Few p seen reads m
few_more Done seen reads n m h f = omega arith
few_more _ seen reads n m h f = f

abbrev one_if_read : Event → ℕ
one_if_read x = if is_read x then 1 else 0

own_read : (c : Call) (a : Answer) (x : Event) (n : ℕ) → c.number ≡ n → read_by (Some (Goes c a)) x n ≡ one_if_read x
own_read c a x n e = let q : (c.number == n) ≡ true = eq-eqb c.number n e in elim (cases_Bool (is_read x)) [ inl y ↦ rw (y, q) refl | inr y ↦ rw y refl ]

row_few : (w : World) (c : Call) {p : Phase} {x : Event} {a : Answer} {r : CallState} {ls : List ℕ} {t : Table} {q : Option Reply} → Row w c p x a r ls t q → (reads n : ℕ) → (p ≡ LookProbe → c.state.seen ≤ n) → Few p c.state.seen reads n → Few r.phase r.seen (reads + one_if_read x) n
row_few w c (looks_none m e) reads n s f = omega arith
row_few w c (looks m g e) reads n s f = omega arith
row_few w c (look_empty m y e) reads n s f = let le = s refl in omega arith
row_few w c (look_meets m y d e z) reads n s f = let le = s refl in omega arith
row_few w c (look_turns m y d e z lt) reads n s f = let le = s refl in omega arith
row_few w c (look_turns_unasked m y d e z lt) reads n s f = let le = s refl in omega arith
row_few w c (look_goes_on m y d e z lt) reads n s f = omega arith
row_few w c (look_goes_on_unasked m y d e z lt) reads n s f = omega arith
row_few w c _ reads n s f = absurd f

module _ (f : ℕ) (inv : (s : List Event) → Inv (after f s) (placed (empty f) s) (replies (empty f) s)) where
  -- a probe has seen no more set buckets than values are placed
  seen_placed : (s : List Event) (i : ℕ) (c : Call) → slice_get (after f s).calls i ≡ Some c → c.state.phase ≡ LookProbe → c.state.seen ≤ length (placed (empty f) s)
  seen_placed s i c g e =
      let p = ((inv s).tracked.at i c g).probes (rw e refl) in
      omega (arith, many_buckets p.gen.capacity c.state.hash c.state.seen p.gen.entries (omega (arith, p.below)) p.passed, (inv s).within.each p.number p.gen p.got (λ v. 1), weigh-ones p.gen.entries, weigh-ones (placed (empty f) s))

  -- a look-up that has begun
  record LooksUp (s : List Event) (v : World) (n : ℕ) : Type 0 where
    at : ℕ
    call : Call
    got : slice_get v.calls at ≡ Some call
    own : call.number ≡ n
    few : Few call.state.phase call.state.seen (reads (empty f) s n) (length (placed (empty f) s))

  more_placed : (s : List Event) (x : Event) → length (placed (empty f) s) ≤ length (placed (empty f) (s ++ x ∷ []))
  more_placed s x = rw (placed_snoc f s x) (omega (arith, length-append (placed (empty f) s) (placed_by (acts (after f s) x))))

  -- another call's turn, or none
  looks_on : (s : List Event) (x : Event) (v : World) (n : ℕ) (l : LooksUp s (after f s) n) → slice_get v.calls l.at ≡ Some l.call → read_by (acts (after f s) x) x n ≡ 0 → LooksUp (s ++ x ∷ []) v n
  looks_on s x v n l g z = record {
    at = l.at;
    call = l.call;
    got = g;
    own = l.own;
    few = (let same : reads (empty f) s n ≡ reads (empty f) (s ++ x ∷ []) n = omega (arith, reads_snoc f s x n, z) in
        subst (λ k. Few l.call.state.phase l.call.state.seen k (length (placed (empty f) (s ++ x ∷ [])))) same (few_more l.call.state.phase l.call.state.seen (reads (empty f) s n) (length (placed (empty f) s)) (length (placed (empty f) (s ++ x ∷ []))) (more_placed s x) l.few));
  }

  -- its own turn
  looks_own : (s : List Event) (x : Event) (n : ℕ) (l : LooksUp s (after f s) n) {p : Phase} {a : Answer} {r : CallState} {ls : List ℕ} {t : Table} {q : Option Reply} → acts (after f s) x ≡ Some (Goes l.call a) → l.call.state.phase ≡ p → Row (after f s) l.call p x a r ls t q → LooksUp (s ++ x ∷ []) (record { table = t; calls = slice_set (after f s).calls l.at (left l.call r ls) }) n
  looks_own s x n l {a = a} {r = r} {ls = ls} took e row = record {
    at = l.at;
    call = left l.call r ls;
    got = get-set_same (after f s).calls l.at l.call (left l.call r ls) l.got;
    own = l.own;
    few = (let own : read_by (acts (after f s) x) x n ≡ one_if_read x = rw took (own_read l.call a x n l.own) in
        let same : reads (empty f) s n + one_if_read x ≡ reads (empty f) (s ++ x ∷ []) n = omega (arith, reads_snoc f s x n, own) in
        let now = row_few (after f s) l.call row (reads (empty f) s n) (length (placed (empty f) s)) (λ z. seen_placed s l.at l.call l.got (e ∙ z)) (rw e at l.few) in
        subst (λ k. Few r.phase r.seen k (length (placed (empty f) (s ++ x ∷ [])))) same (few_more r.phase r.seen (reads (empty f) s n + one_if_read x) (length (placed (empty f) s)) (length (placed (empty f) (s ++ x ∷ []))) (more_placed s x) now));
  }

  looks_turn : (s : List Event) (x : Event) (n : ℕ) {v : World} {a : Option Act} {r : Option Finished} → Turn (after f s) x a v r → acts (after f s) x ≡ a → LooksUp s (after f s) n → LooksUp (s ++ x ∷ []) v n
  looks_turn s x n rests took l = looks_on s x (after f s) n l l.got (rw took refl)
  looks_turn s x n (opens m v p h ra o us nv) took l = looks_on s x _ n l (get-push_before (after f s).calls (starts m v p h ∷ []) l.at l.call l.got) (rw took refl)
  looks_turn s x n (takes i c p a st list t o g e row nu) took l = elim (cases_eq i l.at) [
    | inl y ↦ (let same : c ≡ l.call = (let z : Some c ≡ Some l.call = sym g ∙ subst (λ k. slice_get (after f s).calls k ≡ Some l.call) (sym y) l.got in cc) in
        let own : LooksUp s (after f s) n = record { at = i; call = c; got = g; own = ap (λ (d : Call). d.number) same ∙ l.own; few = subst (λ (d : Call). Few d.state.phase d.state.seen (reads (empty f) s n) (length (placed (empty f) s))) (sym same) l.few } in
        looks_own s x n own took e row)
    | inr y ↦ (let other : (c.number == n) ≡ false = other_number c.number n (λ z. y ((inv s).numbered.apart i l.at c l.call g l.got (z ∙ sym l.own))) in
        looks_on s x _ n l (get-set_other (after f s).calls i l.at (left c st list) y ∙ l.got) (rw took (other_read c a x n other)))
  ]

  -- a look-up that begins now
  looks_first : (s : List Event) (x : Event) (n h : ℕ) (c : Call) {v : World} {a : Option Act} {r : Option Finished} → Turn (after f s) x a v r → acts (after f s) x ≡ a → x ≡ Lookup n h → a ≡ Some (Begins c) → LooksUp (s ++ x ∷ []) v n
  looks_first s x n h c rests took e b = absurd (cc)
  looks_first s x n h c (takes i d p a st list t o g k row nu) took e b = absurd (cc)
  looks_first s _ n h c (opens m v p k ra (opens_lookup _ _) us nv) took e b =
      let same : m ≡ n = cc in
      let nothing : reads (empty f) s m ≡ 0 = (unused_do_nothing f s m us).reads in
      let now : reads (empty f) (s ++ Lookup m k ∷ []) m ≡ 0 = (let z : read_by (acts (after f s) (Lookup m k)) (Lookup m k) m ≡ 0 = rw took refl in omega (arith, reads_snoc f s (Lookup m k) m, nothing, z)) in
      record {
        at = length (after f s).calls;
        call = starts m None LookLoad k;
        got = get-push_last (after f s).calls (starts m None LookLoad k);
        own = same;
        few = subst (λ j. reads (empty f) (s ++ Lookup m k ∷ []) j ≡ 0) same now;
      }
  looks_first s _ n h c (opens m v p k ra (opens_insert _ _ _) us nv) took e b = absurd (cc)
  looks_first s _ n h c (opens m v p k ra (opens_len _) us nv) took e b = absurd (cc)
  looks_first s _ n h c (opens m v p k ra (opens_walk _) us nv) took e b = absurd (cc)

  few_bound : (p : Phase) (seen reads n : ℕ) → (p ≡ LookProbe → seen ≤ n) → Few p seen reads n → reads ≤ n + 1
  few_bound LookLoad seen reads n s h = omega arith
  few_bound LookProbe seen reads n s h = let le = s refl in omega arith
  few_bound Done seen reads n s h = h
  few_bound _ seen reads n s h = absurd h

  looks_bound : (s : List Event) (n : ℕ) → LooksUp s (after f s) n → reads (empty f) s n ≤ length (placed (empty f) s) + 1
  looks_bound s n l = few_bound l.call.state.phase l.call.state.seen (reads (empty f) s n) (length (placed (empty f) s)) (seen_placed s l.at l.call l.got) l.few

  pub lookups_read_few : (s : List Event) (n h : ℕ) (more : List Event) → LookupsReadFew f s n h more
  lookups_read_few s n h more c b =
      let first : LooksUp (s ++ Lookup n h ∷ []) (after f (s ++ Lookup n h ∷ [])) n = looks_first s (Lookup n h) n h c (turn_after f s (Lookup n h)) refl refl b in
      let all : LooksUp ((s ++ Lookup n h ∷ []) ++ more) (after f ((s ++ Lookup n h ∷ []) ++ more)) n =
      by_snoc_from (λ t. LooksUp t (after f t) n) (λ t x l. looks_turn t x n (turn_after f t x) refl l) more (s ++ Lookup n h ∷ []) first in
      rw (← append_assoc s (Lookup n h ∷ []) more) (looks_bound ((s ++ Lookup n h ∷ []) ++ more) n all)
