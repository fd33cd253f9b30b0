-- A call loads each generation at most once.
use Rattle.std.proofs.Common.{ℕ, suc, ◌≡◌, ◌+◌, ◌-◌, ◌/◌, ◌<◌, ◌≤◌, ◌++◌, ◌⊎◌, inl, inr, List, [], ◌∷◌, Bool, true, false, refl, Option, Some, None, length, sym, subst, ap, arith, ◌∙◌}
use Rattle.std.specs.Prelude.{◌==◌, nat_lt}
use Rattle.std.specs.List.{slice_get}
use Rattle.table_core.proofs.Weights.{count_of, count_by-count_of}
use Rattle.table_core.specs.Replies.{Reply, Finished}
use Rattle.table_core.specs.Generations.{Gen, Build, Table, count, current, is_current}
use Rattle.table_core.specs.Phases.{Loads, about}
use Rattle.table_core.specs.Calls.{Call, starts, holds_owned, is_pending}
use Rattle.table_core.specs.Machine.{World, empty, show_built, Act, Goes, acts, after}
use Rattle.table_core.specs.History.{replies, placed, loaded_by, generations_loaded}
use Rattle.table_core.specs.Steps.{Row, shares, loads_none, loads, puts, adds, unwanted, shows, starts_over, tries_again, looks, len_loads, walk_loads, left}
use Rattle.table_core.specs.declared.event.Event.{Event}
use Rattle.table_core.specs.declared.call.CallState.{CallState}
use Rattle.table_core.specs.declared.call.Phase.{Phase}
use Rattle.table_core.specs.declared.call.Phase.TheVariants.{WantShared, Owned, Building, LeaveOwned, LeaveFailed}
use Rattle.table_core.specs.declared.call.Outcome.{Outcome}
use Rattle.table_core.specs.declared.call.Outcome.TheVariants.{Pending, New, Existing}
use Rattle.table_core.specs.declared.call.Answer.{Answer}
use Rattle.table_core.specs.declared.call.Answer.TheVariants.{Loaded}
use Rattle.table_core.proofs.Lists.{weigh-append, weigh-get, get-set, get-push, length-push}
use Rattle.table_core.proofs.Locks.{Locked, builders, is_building, built_count}
use Rattle.std.proofs.lemmas.Bool.{eq-eqb, ltb-true, cases_eq}
use Rattle.std.proofs.lemmas.Option.{slice_get_within}
use Rattle.table_core.specs.Values.{LoadsOnce}
use Rattle.table_core.specs.Bound.{one_if}
use Rattle.table_core.proofs.Turns.{Turn, rests, opens, takes}
use Rattle.table_core.proofs.Facts.{Tracked, Turned, wants_growth, SizesOk, placers, Inv}
use Rattle.table_core.proofs.Standing.{last_number, length-place, length-change, pending_of}
use Rattle.table_core.proofs.Seats.{many_buckets}
use Rattle.table_core.proofs.Sizes.{no_placers}
use Rattle.table_core.proofs.Walks.{mark, marks}
use Rattle.table_core.proofs.FewReads.{other_number, other_loaded, unused_do_nothing}
use Rattle.table_core.proofs.Pasts.{append-none, turn_after, loads_snoc, by_snoc}

-- the generation that an answer loads
abbrev loaded_own : Answer → List ℕ
loaded_own (Loaded g k) = g ∷ []
loaded_own _ = []

own_loaded : (c : Call) (a : Answer) (n : ℕ) → c.number ≡ n → loaded_by (Some (Goes c a)) n ≡ loaded_own a
own_loaded c (Loaded g k) n e = let q : (c.number == n) ≡ true = eq-eqb c.number n e in rw q refl
own_loaded c _ n e = refl

-- a call that may load: what it has loaded is not the current generation
abbrev may_load : Phase → Outcome → Bool
may_load WantShared o = true
may_load LeaveOwned o = is_pending o
may_load p o = elim (about p).next [ Loads ↦ true | _ ↦ false ]

-- what a call has loaded lies behind the n-th generation, or it is the one that it walks; and it lies behind where the call may load
record Behind (n : ℕ) (s : CallState) (ls : List ℕ) : Type 0 where
  within : (g : ℕ) → 1 ≤ count_of g ls → (g + 1 < n) ⊎ (s.walked ≡ Some g)
  past : may_load s.phase s.outcome ≡ true → (g : ℕ) → 1 ≤ count_of g ls → g + 1 < n

behind_more : (n m : ℕ) (s : CallState) (ls : List ℕ) → n ≤ m → Behind n s ls → Behind m s ls
behind_more n m s ls h b = record {
  within = λ g c. elim (b.within g c) [ inl y ↦ inl (omega arith) | inr y ↦ inr y ];
  past = λ l g c. (let y = b.past l g c in omega arith);
}

-- a call that may load loads the last generation
behind_load : (n k : ℕ) (s r : CallState) (ls : List ℕ) → suc k ≡ n → may_load s.phase s.outcome ≡ true → r.walked ≡ Some k → may_load r.phase r.outcome ≡ false → Behind n s ls → Behind n r (ls ++ k ∷ [])
behind_load n k s r ls e l w m b = record {
  within = λ g c. elim (marks g k) [
    | inl y ↦ inr (w ∙ ap Some y.0)
    | inr y ↦ inl (b.past l g (omega (arith, c, y, weigh-append (mark g) ls (k ∷ []))))
  ];
  past = λ z g c. absurd (cc);
}

-- a call that keeps its generation
behind_keep : (n : ℕ) (s r : CallState) (ls : List ℕ) → r.walked ≡ s.walked → (may_load r.phase r.outcome ≡ true → (g : ℕ) → 1 ≤ count_of g ls → g + 1 < n) → Behind n s ls → Behind n r ls
behind_keep n s r ls w p b = record {
  within = λ g c. elim (b.within g c) [ inl y ↦ inl y | inr y ↦ inr (w ∙ y) ];
  past = p;
}

-- the walked generation is there
walked_there : (gens : List Gen) (c : Call) (k : ℕ) → Turned gens c → c.state.walked ≡ Some k → k < length gens
walked_there gens c k t e = let g = t.full k e in slice_get_within gens k g.0 g.1

-- a generation that is full wants growth
full_wants : (w : World) (c : Call) (g : Gen) (k : ℕ) → SizesOk w → placers w.calls ≡ 0 → Turned w.table.gens c → current w.table ≡ Some g → nat_lt g.size (g.capacity / 2) ≡ true → c.state.walked ≡ Some k → suc k ≡ length w.table.gens → ⊥
full_wants w c g k z n t e lt wk last =
    let f = t.full k wk in
    let same : f.0 ≡ g = (let at : slice_get w.table.gens (length w.table.gens - 1) ≡ Some f.0 = subst (λ j. slice_get w.table.gens j ≡ Some f.0) (omega arith) f.1 in let y : Some f.0 ≡ Some g = sym at ∙ e in cc) in
    let many : f.0.capacity ≤ length f.0.entries = many_buckets f.0.capacity c.state.hash f.0.capacity f.0.entries (omega arith) f.2 in
    let many_now : g.capacity ≤ length g.entries = subst (λ (g : Gen). g.capacity ≤ length g.entries) same many in
    let small : g.size < g.capacity / 2 = ltb-true g.size (g.capacity / 2) lt in
    omega (arith, many_now, small, z.counted g e, n)

-- growth shows one generation more
length-show : (t : Table) (b : Build) → t.building ≡ Some b → length (show_built t).gens ≡ suc (length t.gens)
length-show t b e = rw e (length-push t.gens b.gen)

some_built : (o d : Option Build) → o ≡ d → 1 ≤ built_count d → (b : Build) × (o ≡ Some b)
some_built o None e h = absurd (omega arith)
some_built o (Some b) e h = (b, e)

-- a builder builds something
building_there : (w : World) (i : ℕ) (c : Call) → Locked w → slice_get w.calls i ≡ Some c → c.state.phase ≡ Building → (b : Build) × (w.table.building ≡ Some b)
building_there w i c l h e =
    let b : one_if (is_building c.state.phase) ≤ builders w.calls = weigh-get (λ (c : Call). one_if (is_building c.state.phase)) w.calls i c h in
    let b1 : 1 ≤ builders w.calls = rw e at b in
    some_built w.table.building w.table.building refl (omega (arith, l.building))

pending_loads : (o : Outcome) → is_pending o ≡ true → may_load LeaveOwned o ≡ true
pending_loads Pending h = refl
pending_loads (New i) h = absurd (cc)
pending_loads (Existing i) h = absurd (cc)

loads_pending : (o : Outcome) → may_load LeaveOwned o ≡ true → o ≡ Pending
loads_pending Pending h = refl
loads_pending (New i) h = absurd (cc)
loads_pending (Existing i) h = absurd (cc)

-- a generation that is there and is not the last one lies behind it
behind_last : (g n : ℕ) → g < n → (suc g ≡ n → ⊥) → g + 1 < n
behind_last g n lt far = elim (cases_eq (suc g) n) [ inl y ↦ absurd (far y) | inr y ↦ omega arith ]

not_current : (g n : ℕ) → (g + 1 == n) ≡ false → suc g ≡ n → ⊥
not_current g n h e = let q : (g + 1 == n) ≡ true = eq-eqb (g + 1) n (omega arith) in cc

-- no turn takes a generation away
gens_more : (w : World) (i : ℕ) (c : Call) → Locked w → slice_get w.calls i ≡ Some c → {p : Phase} {x : Event} {a : Answer} {r : CallState} {ls : List ℕ} {t : Table} {q : Option Reply} → Row w c p x a r ls t q → c.state.phase ≡ p → length w.table.gens ≤ length t.gens
gens_more w i c l at (shows n none) e = let d = building_there w i c l at e in omega (arith, length-show w.table d.0 d.1)
gens_more w i c l at (puts n y h) e = omega (arith, length-place w.table c.state c.value)
gens_more w i c l at (adds n) e = omega (arith, length-change w.table.gens c.state.walked count)
gens_more w i c l at _ e = omega arith

module _ (w : World) (i : ℕ) (c : Call) (locked : Locked w) (sized : SizesOk w) (tracked : Tracked w.table.gens c) (at : slice_get w.calls i ≡ Some c) (ls : List ℕ) (b : Behind (length w.table.gens) c.state ls) where
  -- the walked generation of a call that wants growth is there
  wanting_there : (g : ℕ) → c.state.outcome ≡ Pending → wants_growth c.state.phase Pending ≡ true → c.state.walked ≡ Some g → g < length w.table.gens
  wanting_there g o h e = walked_there w.table.gens c g (tracked.turned (rw o h)) e

  past_unwanted : (g : Gen) → c.state.phase ≡ Owned → current w.table ≡ Some g → nat_lt g.size (g.capacity / 2) ≡ true → c.state.outcome ≡ Pending → (k : ℕ) → 1 ≤ count_of k ls → k + 1 < length w.table.gens
  past_unwanted g e now lt o k n = elim (b.within k n) [
    | inl y ↦ y
    | inr y ↦ behind_last k (length w.table.gens) (wanting_there k o (rw e refl) y)
        (full_wants w c g k sized (no_placers w i c locked at (ap holds_owned e)) (tracked.turned (rw (e, o) refl)) now lt y)
  ]

  past_failed : c.state.phase ≡ LeaveFailed → c.state.outcome ≡ Pending → is_current w.table.gens c.state.walked ≡ false → (k : ℕ) → 1 ≤ count_of k ls → k + 1 < length w.table.gens
  past_failed e o moved_on k n = elim (b.within k n) [
    | inl y ↦ y
    | inr y ↦ behind_last k (length w.table.gens) (wanting_there k o (rw e refl) y) (not_current k (length w.table.gens) (rw y at moved_on))
  ]

  past_shown : c.state.phase ≡ Building → c.state.outcome ≡ Pending → (k : ℕ) → 1 ≤ count_of k ls → k + 1 < suc (length w.table.gens)
  past_shown e o k n = elim (b.within k n) [
    | inl y ↦ omega arith
    | inr y ↦ (let there = wanting_there k o (rw e refl) y in omega arith)
  ]

  row_behind : {p : Phase} {x : Event} {a : Answer} {r : CallState} {list : List ℕ} {t : Table} {q : Option Reply} → Row w c p x a r list t q → c.state.phase ≡ p → Behind (length t.gens) r (ls ++ loaded_own a)
  row_behind (loads n g now) e = behind_load (length w.table.gens) (length w.table.gens - 1) c.state _ ls (last_number w.table.gens g now) (rw e refl) refl refl b
  row_behind (looks n g now) e = behind_load (length w.table.gens) (length w.table.gens - 1) c.state _ ls (last_number w.table.gens g now) (rw e refl) refl refl b
  row_behind (len_loads n g now) e = behind_load (length w.table.gens) (length w.table.gens - 1) c.state _ ls (last_number w.table.gens g now) (rw e refl) refl refl b
  row_behind (walk_loads n g now) e = behind_load (length w.table.gens) (length w.table.gens - 1) c.state _ ls (last_number w.table.gens g now) (rw e refl) refl refl b
  row_behind (loads_none n now) e = rw append-none (record { within = λ g k. inl (b.past (rw e refl) g k); past = λ z g k. absurd (cc) })
  row_behind (shares n h) e = rw append-none (behind_keep (length w.table.gens) c.state _ ls refl (λ z. b.past (rw e refl)) b)
  row_behind (starts_over n h) e = rw append-none (behind_keep (length w.table.gens) c.state _ ls refl (λ z. b.past (rw e (pending_loads c.state.outcome h))) b)
  row_behind (tries_again n h moved_on) e = rw append-none (behind_keep (length w.table.gens) c.state _ ls refl (λ z. past_failed e (pending_of c.state.outcome h) moved_on) b)
  row_behind (unwanted n m g now lt) e = rw append-none (behind_keep (length w.table.gens) c.state _ ls refl (λ z. past_unwanted g e now lt (loads_pending c.state.outcome z)) b)
  row_behind (shows n none) e =
      let d = building_there w i c locked at e in
      rw (append-none, length-show w.table d.0 d.1) (behind_keep (suc (length w.table.gens)) c.state _ ls refl (λ z. past_shown e (loads_pending c.state.outcome z)) (behind_more (length w.table.gens) (suc (length w.table.gens)) c.state ls (omega arith) b))
  row_behind (puts n y h) e = rw (append-none, length-place w.table c.state c.value) (behind_keep (length w.table.gens) c.state _ ls refl (λ z. absurd (cc)) b)
  row_behind (adds n) e = rw (append-none, length-change w.table.gens c.state.walked count) (behind_keep (length w.table.gens) c.state _ ls refl (λ z. absurd (cc)) b)
  row_behind _ e = rw append-none (behind_keep (length w.table.gens) c.state _ ls refl (λ z. absurd (cc)) b)

  -- what is loaded was not loaded before
  one_more : (g : ℕ) → count_of g ls ≤ 1 → suc (length w.table.gens - 1) ≡ length w.table.gens → may_load c.state.phase c.state.outcome ≡ true → count_of g (ls ++ (length w.table.gens - 1) ∷ []) ≤ 1
  one_more g one last m = elim (marks g (length w.table.gens - 1)) [
    | inl y ↦ elim (cases_eq (count_of g ls) 0) [
      | inl z ↦ omega (arith, y.1, z, weigh-append (mark g) ls ((length w.table.gens - 1) ∷ []))
      | inr z ↦ absurd (let before : g + 1 < length w.table.gens = b.past m g (omega arith) in let e : length w.table.gens - 1 ≡ g = y.0 in omega arith)
    ]
    | inr y ↦ omega (arith, one, y, weigh-append (mark g) ls ((length w.table.gens - 1) ∷ []))
  ]

  row_loads_new : {p : Phase} {x : Event} {a : Answer} {r : CallState} {list : List ℕ} {t : Table} {q : Option Reply} → Row w c p x a r list t q → c.state.phase ≡ p → (g : ℕ) → count_of g ls ≤ 1 → count_of g (ls ++ loaded_own a) ≤ 1
  row_loads_new (loads n d now) e g one = one_more g one (last_number w.table.gens d now) (rw e refl)
  row_loads_new (looks n d now) e g one = one_more g one (last_number w.table.gens d now) (rw e refl)
  row_loads_new (len_loads n d now) e g one = one_more g one (last_number w.table.gens d now) (rw e refl)
  row_loads_new (walk_loads n d now) e g one = one_more g one (last_number w.table.gens d now) (rw e refl)
  row_loads_new _ e g one = rw append-none one

module _ (f : ℕ) (inv : (s : List Event) → Inv (after f s) (placed (empty f) s) (replies (empty f) s)) where
  abbrev AllBehind : List Event → World → Type 0
  AllBehind s v = (i : ℕ) (c : Call) → slice_get v.calls i ≡ Some c → Behind (length v.table.gens) c.state (generations_loaded (empty f) s c.number)

  behind_nothing : (n : ℕ) (s : CallState) (ls : List ℕ) → ls ≡ [] → Behind n s ls
  behind_nothing n s ls e = rw e (record { within = λ g c. absurd (omega arith); past = λ m g c. absurd (omega arith) })

  -- another call loads nothing for this one
  same_loads : (s : List Event) (x : Event) (n : ℕ) → loaded_by (acts (after f s) x) n ≡ [] → generations_loaded (empty f) s n ≡ generations_loaded (empty f) (s ++ x ∷ []) n
  same_loads s x n z = sym (loads_snoc f s x n ∙ rw z (append-none _))

  behind_turn : (s : List Event) (x : Event) {v : World} {a : Option Act} {r : Option Finished} → Turn (after f s) x a v r → acts (after f s) x ≡ a → AllBehind s (after f s) → AllBehind (s ++ x ∷ []) v
  behind_turn s x rests took m i c g = subst (λ l. Behind (length (after f s).table.gens) c.state l) (same_loads s x c.number (rw took refl)) (m i c g)
  behind_turn s x (opens n v p h ra op us nv) took m i c g = elim (get-push (after f s).calls (starts n v p h) c i g) [
    | inl y ↦ behind_nothing (length (after f s).table.gens) c.state (generations_loaded (empty f) (s ++ x ∷ []) c.number) (
        let same : c.number ≡ n = ap (λ (d : Call). d.number) y.1 in
        rw same (sym (same_loads s x n (rw took refl)) ∙ (unused_do_nothing f s n us).loads))
    | inr y ↦ subst (λ l. Behind (length (after f s).table.gens) c.state l) (same_loads s x c.number (rw took refl)) (m i c y)
  ]
  behind_turn s x (takes i d p a st list t o g e row nu) took m j c y = elim (get-set (after f s).calls i j d (left d st list) c g y) [
    | inl z ↦ (let own : loaded_by (acts (after f s) x) d.number ≡ loaded_own a = rw took (own_loaded d a d.number refl) in
        let now : Behind (length t.gens) st (generations_loaded (empty f) s d.number ++ loaded_own a) = row_behind (after f s) i d (inv s).locked (inv s).sized ((inv s).tracked.at i d g) g (generations_loaded (empty f) s d.number) (m i d g) row e in
        let all : Behind (length t.gens) st (generations_loaded (empty f) (s ++ x ∷ []) d.number) = rw (loads_snoc f s x d.number, own) now in
        subst (λ (b : Call). Behind (length t.gens) b.state (generations_loaded (empty f) (s ++ x ∷ []) b.number)) (sym z.1) all)
    | inr z ↦ (let other : (d.number == c.number) ≡ false = other_number d.number c.number (λ k. z.0 ((inv s).numbered.apart i j d c g z.1 k)) in
        subst (λ l. Behind (length t.gens) c.state l) (same_loads s x c.number (rw took (other_loaded d a c.number other)))
        (behind_more (length (after f s).table.gens) (length t.gens) c.state (generations_loaded (empty f) s c.number) (gens_more (after f s) i d (inv s).locked g row e) (m j c z.1)))
  ]

  all_behind : (s : List Event) → AllBehind s (after f s)
  all_behind = by_snoc (λ s. AllBehind s (after f s)) (λ i c g. absurd (cc)) (λ s x m. behind_turn s x (turn_after f s x) refl m)

  once_turn : (s : List Event) (x : Event) (n g : ℕ) {v : World} {a : Option Act} {r : Option Finished} → Turn (after f s) x a v r → acts (after f s) x ≡ a → count_of g (generations_loaded (empty f) s n) ≤ 1 → count_of g (generations_loaded (empty f) (s ++ x ∷ []) n) ≤ 1
  once_turn s x n g rests took one = rw (← same_loads s x n (rw took refl)) one
  once_turn s x n g (opens m v p h ra op us nv) took one = rw (← same_loads s x n (rw took refl)) one
  once_turn s x n g (takes i d p a st list t o at e row nu) took one = elim (cases_eq d.number n) [
    | inl y ↦ (let own : loaded_by (acts (after f s) x) n ≡ loaded_own a = rw took (own_loaded d a n y) in
        let b : Behind (length (after f s).table.gens) d.state (generations_loaded (empty f) s n) = subst (λ k. Behind (length (after f s).table.gens) d.state (generations_loaded (empty f) s k)) y (all_behind s i d at) in
        rw (loads_snoc f s x n, own) (row_loads_new (after f s) i d (inv s).locked (inv s).sized ((inv s).tracked.at i d at) at (generations_loaded (empty f) s n) b row e g one))
    | inr y ↦ (let other : (d.number == n) ≡ false = other_number d.number n y in rw (← same_loads s x n (rw took (other_loaded d a n other))) one)
  ]

  pub loads_once : (s : List Event) (n g : ℕ) → LoadsOnce f s n g
  loads_once s n g =
      let few : count_of g (generations_loaded (empty f) s n) ≤ 1 = by_snoc (λ s. count_of g (generations_loaded (empty f) s n) ≤ 1) (omega arith) (λ s x one. once_turn s x n g (turn_after f s x) refl one) s in
      omega (arith, few, count_by-count_of g (generations_loaded (empty f) s n))
