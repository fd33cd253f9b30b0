-- A length lies between the adds taken at its load and what is placed at its end.
use Rattle.std.proofs.Common.{ℕ, ◌≡◌, ◌+◌, ◌-◌, ◌≤◌, ◌++◌, ◌⊎◌, inl, inr, List, [], ◌∷◌, Bool, true, false, refl, Option, Some, None, length, sym, subst, ap, arith, ◌∙◌}
use Rattle.std.specs.List.{slice_get}
use Rattle.table_core.specs.Replies.{Reply, ReplyLen, Finished}
use Rattle.table_core.specs.Generations.{Gen, Table, current, gen_of, bucket_in, entries_of}
use Rattle.table_core.specs.Calls.{Call, starts}
use Rattle.table_core.specs.Machine.{World, empty, walked_gen, refused, found_entry, reply_of_outcome, number_of, Act, Goes, acts, finished_call, after}
use Rattle.table_core.specs.History.{replies, placed_by, placed, added_by, added, TakenEvent}
use Rattle.table_core.specs.Steps.{Row, puts, leaves_refused, small, ends, ends_failed, gives_up, len_none, len_loads, len_size, Opens, opens_insert, left}
use Rattle.table_core.specs.declared.event.Event.{Event}
use Rattle.table_core.specs.declared.event.Event.TheVariants.{Load}
use Rattle.table_core.specs.declared.generation.Entry.{Entry}
use Rattle.table_core.specs.declared.call.CallState.{CallState}
use Rattle.table_core.specs.declared.call.Phase.{Phase}
use Rattle.table_core.specs.declared.call.Phase.TheVariants.{LenSize}
use Rattle.table_core.specs.declared.call.Outcome.{Outcome}
use Rattle.table_core.specs.declared.call.Outcome.TheVariants.{Pending, New, Existing}
use Rattle.table_core.specs.declared.call.Answer.{Answer}
use Rattle.table_core.proofs.Lists.{get-set, get-push, weigh-ones}
use Rattle.table_core.proofs.Locks.{moved, more}
use Rattle.std.specs.Option.{is_some}
use Rattle.table_core.specs.Values.{IsBetween, LengthsBetween}
use Rattle.table_core.proofs.Turns.{Turn, rests, opens, takes}
use Rattle.table_core.proofs.Standing.{fitting, CallsOk}
use Rattle.table_core.proofs.Facts.{is_placed, placers, Inv}
use Rattle.table_core.proofs.Contents.{turn_grew, fit_at}
use Rattle.table_core.proofs.Sizes.{one_value, begin_placed}
use Rattle.table_core.proofs.Pasts.{turn_after, placed_snoc, added_snoc, by_snoc, taken_now, taken_later}
use Rattle.table_core.proofs.Counted.{placed_are_counted}
use Rattle.std.proofs.lemmas.List.{length-append}
use Rattle.table_core.specs.Bound.{one_if}

-- a value that is placed is counted by an add, or its call has still to count it
row_added : (w : World) (c : Call) {p : Phase} {x : Event} {a : Answer} {r : CallState} {ls : List ℕ} {t : Table} {q : Option Reply} → Row w c p x a r ls t q → fitting (is_some c.value) p c.state.outcome ≡ true → added_by (Some (Goes c a)) + one_if (is_placed r.phase) ≡ one_if (is_placed p) + length (placed_by (Some (Goes c a)))
row_added w c (puts n y h) f = omega (arith, one_value c.value c.state.outcome f)
row_added w c _ f = refl

turn_added : {w v : World} {x : Event} {a : Option Act} {r : Option Finished} → Turn w x a v r → CallsOk w → added_by a + placers v.calls ≡ placers w.calls + length (placed_by a)
turn_added rests k = omega arith
turn_added {w = w} (opens n v p h ra o u f) k = omega (arith, more (λ p. one_if (is_placed p)) w.calls (starts n v p h), begin_placed o)
turn_added {w = w} (takes i c p a s list t o g e row nu) k = omega (arith, moved (λ p. one_if (is_placed p)) w.calls i c p list s g e, row_added w c row (fit_at c _ p (k.at i c g) e))

module _ (f : ℕ) (inv : (s : List Event) → Inv (after f s) (placed (empty f) s) (replies (empty f) s)) where
  -- the adds taken and those still due make what was placed
  added_placed : (s : List Event) → added (empty f) s + placers (after f s).calls ≡ length (placed (empty f) s)
  added_placed = by_snoc (λ s. added (empty f) s + placers (after f s).calls ≡ length (placed (empty f) s)) refl (λ s x h.
      omega (arith, h, added_snoc f s x, turn_added (turn_after f s x) (inv s).calls, ap length (placed_snoc f s x), length-append (placed (empty f) s) (placed_by (acts (after f s) x))))

  -- what was placed has as many values as the current generation has entries
  entries_placed : (s : List Event) → length (entries_of (current (after f s).table)) ≡ length (placed (empty f) s)
  entries_placed s = omega (arith, (inv s).holding.bag (λ v. 1), weigh-ones (entries_of (current (after f s).table)), weigh-ones (placed (empty f) s))

  -- the adds taken are at most the size of the current generation
  added_sized : (s : List Event) (g : Gen) → current (after f s).table ≡ Some g → added (empty f) s ≤ g.size
  added_sized s g e =
      let n : length g.entries ≡ length (placed (empty f) s) = rw e at (entries_placed s) in
      omega (arith, n, added_placed s, (inv s).sized.counted g e)

  -- before the first generation no add is taken
  added_none : (s : List Event) → current (after f s).table ≡ None → added (empty f) s ≡ 0
  added_none s e =
      let n : 0 ≡ length (placed (empty f) s) = rw e at (entries_placed s) in
      omega (arith, n, added_placed s)

  -- no generation has a size past what was placed
  size_placed : (s : List Event) (k : ℕ) (g : Gen) → slice_get (after f s).table.gens k ≡ Some g → g.size ≤ length (placed (empty f) s)
  size_placed s k g e = omega (arith, (inv s).sized.within k g e, (inv s).within.each k g e (λ v. 1), weigh-ones g.entries, weigh-ones (placed (empty f) s))

abbrev is_sizing : Phase → Bool
is_sizing LenSize = true
is_sizing _ = false

-- a length that has loaded its generation, whose size has reached the adds taken then
record Measuring (f : ℕ) (s : List Event) (c : Call) : Type 0 where
  at : TakenEvent f s c.number
  loads : at.event ≡ Load c.number
  number : ℕ
  gen : Gen
  walked : c.state.walked ≡ Some number
  got : slice_get (after f s).table.gens number ≡ Some gen
  least : added (empty f) at.before ≤ gen.size

-- the row at which a length loads
record Loading (w : World) (x : Event) (r : CallState) : Type 0 where
  gen : Gen
  now : current w.table ≡ Some gen
  walked : r.walked ≡ Some (length w.table.gens - 1)
  loads : x ≡ Load (number_of x)

row_loading : (w : World) (c : Call) {p : Phase} {x : Event} {a : Answer} {r : CallState} {ls : List ℕ} {t : Table} {q : Option Reply} → Row w c p x a r ls t q → is_sizing r.phase ≡ true → Loading w x r
row_loading w c (len_loads n g e) h = record { gen = g; now = e; walked = refl; loads = refl }
row_loading w c _ h = absurd (cc)

begin_sizing : {x : Event} {n : ℕ} {v : Option ℕ} {p : Phase} {h : ℕ} → Opens x n v p h → is_sizing p ≡ false
begin_sizing (opens_insert n v h) = refl
begin_sizing _ = refl

-- a length that measures goes on measuring
measuring_later : (f : ℕ) (s : List Event) (x : Event) (c : Call) → Measuring f s c → Measuring f (s ++ x ∷ []) c
measuring_later f s x c m =
    let g = (turn_grew (turn_after f s x)).each m.number m.gen m.got in
    record {
      at = taken_later f s c.number m.at x;
      loads = m.loads;
      number = m.number;
      gen = g.0;
      walked = m.walked;
      got = g.1;
      least = omega (arith, m.least, g.2.size);
    }

module _ (f : ℕ) (inv : (s : List Event) → Inv (after f s) (placed (empty f) s) (replies (empty f) s)) where
  abbrev AllMeasuring : List Event → World → Type 0
  AllMeasuring s v = (i : ℕ) (c : Call) → slice_get v.calls i ≡ Some c → is_sizing c.state.phase ≡ true → Measuring f s c

  -- a call that loads now measures
  measuring_now : (s : List Event) (x : Event) (i : ℕ) (c : Call) {p : Phase} {a : Answer} {r : CallState} {ls : List ℕ} {t : Table} {q : Option Reply} → acts (after f s) x ≡ Some (Goes c a) → Row (after f s) c p x a r ls t q → c.number ≡ number_of x → is_sizing r.phase ≡ true → Measuring f (s ++ x ∷ []) (left c r ls)
  measuring_now s x i c {r = r} took row nu h =
      let l : Loading (after f s) x r = row_loading (after f s) c row h in
      let g = (turn_grew (turn_after f s x)).each (length (after f s).table.gens - 1) l.gen l.now in
      record {
        at = taken_now f s x c.number c _ took refl;
        loads = subst (λ n. x ≡ Load n) (sym nu) l.loads;
        number = length (after f s).table.gens - 1;
        gen = g.0;
        walked = l.walked;
        got = g.1;
        least = omega (arith, added_sized f inv s l.gen l.now, g.2.size);
      }

  measuring_turn : (s : List Event) (x : Event) {v : World} {a : Option Act} {r : Option Finished} → Turn (after f s) x a v r → acts (after f s) x ≡ a → AllMeasuring s (after f s) → AllMeasuring (s ++ x ∷ []) v
  measuring_turn s x rests took m i c g h = measuring_later f s x c (m i c g h)
  measuring_turn s x (opens n v p k ra o u nv) took m i c g h = elim (get-push (after f s).calls (starts n v p k) c i g) [
    | inl y ↦ absurd (let q : is_sizing p ≡ true = (rw y.1 at h) in let z : is_sizing p ≡ false = begin_sizing o in cc)
    | inr y ↦ measuring_later f s x c (m i c y h)
  ]
  measuring_turn s x (takes i d p a st list t o g e row nu) took m j c y h = elim (get-set (after f s).calls i j d (left d st list) c g y) [
    | inl z ↦ subst (λ b. Measuring f (s ++ x ∷ []) b) (sym z.1) (measuring_now s x i d took row nu (rw z.1 at h))
    | inr z ↦ measuring_later f s x c (m j c z.1 h)
  ]

  measuring : (s : List Event) → AllMeasuring s (after f s)
  measuring = by_snoc (λ s. AllMeasuring s (after f s)) (λ i c g h. absurd (cc)) (λ s x m. measuring_turn s x (turn_after f s x) refl m)

-- a reply tells its call what was told
pub reply_told : (m : ℕ) (o : Option Reply) (n : ℕ) (q : Reply) → finished_call m o ≡ Some (record { call = n; reply = q }) → (o ≡ Some q) × (m ≡ n)
reply_told m None n q h = absurd (cc)
reply_told m (Some z) n q h =
    let e : record { call = m; reply = z } ≡ record { call = n; reply = q } = cc in
    (ap Some (ap (λ (r : Finished). r.reply) e), ap (λ (r : Finished). r.call) e)

-- no call but a length is told one
refused_no_length : (v : Option ℕ) (k : ℕ) → refused v ≡ Some (ReplyLen k) → ⊥
refused_no_length None k h = cc
refused_no_length (Some v) k h = cc

found_no_length : (e : Option Entry) (v k : ℕ) → found_entry e v ≡ Some (ReplyLen k) → ⊥
found_no_length None v k h = cc
found_no_length (Some e) v k h = cc

told_no_length : (o : Outcome) (t : Table) (s : CallState) (v : Option ℕ) (k : ℕ) → reply_of_outcome o t s v ≡ Some (ReplyLen k) → ⊥
told_no_length (New i) t s (Some v) k h = cc
told_no_length (Existing i) t s (Some v) k h = found_no_length (bucket_in (walked_gen t s) i) v k h
told_no_length Pending t s v k h = cc
told_no_length (New i) t s None k h = cc
told_no_length (Existing i) t s None k h = cc

-- a length is told 0 where there is no generation, or else the size of the generation that it loaded
abbrev TellsLength : World → Call → Phase → Event → ℕ → Type 0
TellsLength w c p x k = ((current w.table ≡ None) × (k ≡ 0) × (x ≡ Load (number_of x))) ⊎ ((p ≡ LenSize) × ((g : Gen) × (walked_gen w.table c.state ≡ Some g) × (k ≡ g.size)))

row_told : (w : World) (c : Call) {p : Phase} {x : Event} {a : Answer} {r : CallState} {ls : List ℕ} {t : Table} {q : Option Reply} → Row w c p x a r ls t q → (k : ℕ) → q ≡ Some (ReplyLen k) → TellsLength w c p x k
row_told w c (len_none n e) k h = inl (e, (let y : 0 ≡ k = cc in sym y), refl)
row_told w c (len_size n g e) k h = inr (refl, (g, e, (let y : g.size ≡ k = cc in sym y)))
row_told w c (leaves_refused n) k h = absurd (refused_no_length c.value k h)
row_told w c (gives_up n e d) k h = absurd (refused_no_length c.value k h)
row_told w c (small n g e d) k h = absurd (told_no_length c.state.outcome w.table c.state c.value k h)
row_told w c (ends n e) k h = absurd (told_no_length c.state.outcome w.table c.state c.value k h)
row_told w c (ends_failed n e) k h = absurd (told_no_length c.state.outcome w.table c.state c.value k h)
row_told w c _ k h = absurd (cc)

module _ (f : ℕ) (inv : (s : List Event) → Inv (after f s) (placed (empty f) s) (replies (empty f) s)) where
  abbrev Replied : ℕ → ℕ → Finished
  Replied n k = record { call = n; reply = ReplyLen k }

  between_now : (s : List Event) (x : Event) (n k : ℕ) (c : Call) (a : Answer) → acts (after f s) x ≡ Some (Goes c a) → c.number ≡ n → x ≡ Load n → current (after f s).table ≡ None → k ≡ 0 → IsBetween f (s ++ x ∷ []) n k
  between_now s x n k c a took nu l e z = record {
    at = taken_now f s x n c a took nu;
    loads = l;
    least = omega (arith, added_none f inv s e);
    reply = omega (arith, added_none f inv s e, placed_are_counted f s);
    most = omega arith;
  }

  between_later : (s : List Event) (x : Event) (n k : ℕ) (c : Call) (g : Gen) → Measuring f s c → c.number ≡ n → walked_gen (after f s).table c.state ≡ Some g → k ≡ g.size → IsBetween f (s ++ x ∷ []) n k
  between_later s x n k c g m nu e z =
      let same : m.gen ≡ g = (let y : Some m.gen ≡ Some g = sym m.got ∙ subst (λ w. gen_of (after f s).table.gens w ≡ Some g) m.walked e in cc) in
      let small : g.size ≤ length (placed (empty f) s) = size_placed f inv s m.number g (m.got ∙ ap Some same) in
      let at : TakenEvent f (s ++ x ∷ []) c.number = taken_later f s c.number m.at x in
      subst (λ n. IsBetween f (s ++ x ∷ []) n k) nu (record {
        at = taken_later f s c.number m.at x;
        loads = m.loads;
        least = omega (arith, m.least, ap (λ (g : Gen). g.size) same);
        reply = omega (arith, m.least, ap (λ (g : Gen). g.size) same, placed_are_counted f m.at.before);
        most = omega (arith, small, ap length (placed_snoc f s x), length-append (placed (empty f) s) (placed_by (acts (after f s) x)));
      })

  between_turn : (s : List Event) (x : Event) (n k : ℕ) {v : World} {a : Option Act} {r : Option Finished} → Turn (after f s) x a v r → acts (after f s) x ≡ a → r ≡ Some (Replied n k) → IsBetween f (s ++ x ∷ []) n k
  between_turn s x n k rests took h = absurd (cc)
  between_turn s x n k (opens _ _ _ _ _ _ _ _) took h = absurd (cc)
  between_turn s x n k (takes i c p a st list t o g e row nu) took h =
      let reply : (o ≡ Some (ReplyLen k)) × (c.number ≡ n) = reply_told c.number o n (ReplyLen k) h in
      elim (row_told (after f s) c row k reply.0) [
        | inl z ↦ between_now s x n k c a took reply.1 (subst (λ m. x ≡ Load m) (sym nu ∙ reply.1) z.2) z.0 z.1
        | inr z ↦ between_later s x n k c z.1.0 (measuring f inv s i c g (rw (e ∙ z.0) refl)) reply.1 z.1.1 z.1.2
      ]

  pub lengths_between : (s : List Event) (x : Event) (n k : ℕ) → LengthsBetween f s x n k
  lengths_between s x n k h = between_turn s x n k (turn_after f s x) refl h
