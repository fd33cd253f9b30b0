-- A call is refused only for want of memory or of a greater capacity, and its value is placed at no moment.
use Rattle.std.proofs.Common.{ℕ, ◌≡◌, ◌≤◌, ◌++◌, inl, inr, List, [], ◌∷◌, Bool, true, false, refl, Option, Some, None, sym, subst, ap, arith, ◌∙◌}
use Rattle.std.specs.Prelude.{◌==◌, ◌/◌}
use Rattle.std.specs.List.{slice_get}
use Rattle.table_core.proofs.Weights.{weigh, count_of, count_by-count_of}
use Rattle.table_core.specs.Replies.{Reply, ReplyRefused, Finished}
use Rattle.table_core.specs.Generations.{Gen, Table, current, bucket_in}
use Rattle.table_core.specs.Calls.{Call, starts, is_done, to}
use Rattle.table_core.specs.Machine.{World, empty, walked_gen, refused, found_entry, reply_of_outcome, Act, Goes, acts, after}
use Rattle.table_core.specs.History.{replies, placed, picks, TakenEvent, answers_so, has_later}
use Rattle.table_core.specs.Steps.{Row, memory_refused, leaves_refused, small, fails_first, fails_largest, fails_refused, ends, ends_failed, gives_up, Opens, opens_insert, left}
use Rattle.table_core.specs.declared.event.Event.{Event}
use Rattle.table_core.specs.declared.event.Event.TheVariants.{Put}
use Rattle.table_core.specs.declared.generation.Entry.{Entry}
use Rattle.table_core.specs.declared.call.CallState.{CallState}
use Rattle.table_core.specs.declared.call.Phase.{Phase}
use Rattle.table_core.specs.declared.call.Phase.TheVariants.{LeaveRefused, LeaveFailed, Done}
use Rattle.table_core.specs.declared.call.Outcome.{Outcome}
use Rattle.table_core.specs.declared.call.Outcome.TheVariants.{Pending, New, Existing}
use Rattle.table_core.specs.declared.call.Answer.TheVariants.{MemoryRefused}
use Rattle.table_core.specs.declared.call.Answer.{Answer}
use Rattle.table_core.specs.declared.call.Answer.TheVariants.{MemoryRefused}
use Rattle.table_core.proofs.Lists.{get-set, get-set_same, get-set_other, get-push, get-push_before}
use Rattle.table_core.proofs.Locks.{more}
use Rattle.std.proofs.lemmas.Bool.{cases_lt, ltb-false}
use Rattle.std.specs.Option.{is_some}
use Rattle.table_core.specs.Values.{IsCause, is_put_or_check, IsRefusal, RefusalCauses}
use Rattle.table_core.proofs.Turns.{Turn, rests, opens, takes}
use Rattle.table_core.proofs.Facts.{in_table, Inv}
use Rattle.table_core.proofs.Standing.{fitting, pending_of}
use Rattle.table_core.proofs.Contents.{fit_at}
use Rattle.table_core.proofs.Walks.{mark, none_of, picked_own}
use Rattle.table_core.proofs.FewReads.{other_number}
use Rattle.table_core.proofs.OwnAnswers.{reply_by_row}
use Rattle.table_core.proofs.Pasts.{turn_after, by_snoc, by_snoc_from, taken_now, taken_later, after_taken, later_snoc}
use Rattle.table_core.proofs.Callings.{row_not_done}
use Rattle.std.proofs.lemmas.Bool.{and_right}

-- a call that may be told that it is refused
abbrev refusable : Phase → Outcome → Bool
refusable LeaveRefused o = true
refusable LeaveFailed Pending = true
refusable _ o = false

-- its last put or check had a cause
record Caused (f : ℕ) (s : List Event) (c : Call) : Type 0 where
  at : TakenEvent f s c.number
  cause : IsCause (current (after f at.before).table) at.event at.found
  last : has_later is_put_or_check (after f (at.before ++ at.event ∷ [])) at.rest c.number ≡ false

caused_later : (f : ℕ) (s : List Event) (x : Event) (c : Call) → answers_so is_put_or_check (acts (after f s) x) c.number ≡ false → Caused f s c → Caused f (s ++ x ∷ []) c
caused_later f s x c h k = record {
  at = taken_later f s c.number k.at x;
  cause = k.cause;
  last = later_snoc is_put_or_check (after f (k.at.before ++ k.at.event ∷ [])) k.at.rest x c.number ∙ rw (k.last, after_taken f s c.number k.at, h) refl;
}

-- the cause of a refusal

cause_put : (g : Option Gen) (n : ℕ) (y : Bool) → IsCause g (Put n y false) MemoryRefused
cause_put None n y = refl
cause_put (Some g) n y = refl

row_cause : (w : World) (c : Call) {p : Phase} {x : Event} {a : Answer} {r : CallState} {ls : List ℕ} {t : Table} {q : Option Reply} → Row w c p x a r ls t q → refusable r.phase r.outcome ≡ true → IsCause (current w.table) x a
row_cause w c (memory_refused n y) h = cause_put (current w.table) n y
row_cause w c (fails_first n e) h = rw e refl
row_cause w c (fails_largest n m g e lt top) h = rw e (ltb-false g.size (g.capacity / 2) lt, inr top)
row_cause w c (fails_refused n g e lt) h = rw e (ltb-false g.size (g.capacity / 2) lt, inl refl)
row_cause w c _ h = absurd (cc)

begin_refusable : {x : Event} {n : ℕ} {v : Option ℕ} {p : Phase} {h : ℕ} → Opens x n v p h → refusable p Pending ≡ false
begin_refusable (opens_insert n v h) = refl
begin_refusable _ = refl

other_answer : (c : Call) (a : Answer) (n : ℕ) → (c.number == n) ≡ false → answers_so is_put_or_check (Some (Goes c a)) n ≡ false
other_answer c a n h = rw h (and_right (is_put_or_check c.state.phase a) false refl)

module _ (f : ℕ) (inv : (s : List Event) → Inv (after f s) (placed (empty f) s) (replies (empty f) s)) where
  abbrev AllCaused : List Event → World → Type 0
  AllCaused s v = (i : ℕ) (c : Call) → slice_get v.calls i ≡ Some c → refusable c.state.phase c.state.outcome ≡ true → Caused f s c

  caused_now : (s : List Event) (x : Event) (c : Call) (a : Answer) (r : CallState) (ls : List ℕ) → acts (after f s) x ≡ Some (Goes c a) → IsCause (current (after f s).table) x a → Caused f (s ++ x ∷ []) (left c r ls)
  caused_now s x c a r ls took k = record { at = taken_now f s x c.number c a took refl; cause = k; last = refl }

  caused_turn : (s : List Event) (x : Event) {v : World} {a : Option Act} {r : Option Finished} → Turn (after f s) x a v r → acts (after f s) x ≡ a → AllCaused s (after f s) → AllCaused (s ++ x ∷ []) v
  caused_turn s x rests took m i c g h = caused_later f s x c (rw took refl) (m i c g h)
  caused_turn s x (opens n v p k ra op us nv) took m i c g h = elim (get-push (after f s).calls (starts n v p k) c i g) [
    | inl y ↦ absurd (let z : refusable p Pending ≡ false = begin_refusable op in let q : refusable p Pending ≡ true = subst (λ (d : Call). refusable d.state.phase d.state.outcome ≡ true) y.1 h in cc)
    | inr y ↦ caused_later f s x c (rw took refl) (m i c y h)
  ]
  caused_turn s x (takes i d p a st list t o g e row nu) took m j c y h = elim (get-set (after f s).calls i j d (left d st list) c g y) [
    | inl z ↦ subst (λ b. Caused f (s ++ x ∷ []) b) (sym z.1) (caused_now s x d a st list took (row_cause (after f s) d row (subst (λ (b : Call). refusable b.state.phase b.state.outcome ≡ true) z.1 h)))
    | inr z ↦ (let other : (d.number == c.number) ≡ false = other_number d.number c.number (λ k. z.0 ((inv s).numbered.apart i j d c g z.1 k)) in
        caused_later f s x c (rw took (other_answer d a c.number other)) (m j c z.1 h))
  ]

  all_caused : (s : List Event) → AllCaused s (after f s)
  all_caused = by_snoc (λ s. AllCaused s (after f s)) (λ i c g h. absurd (cc)) (λ s x m. caused_turn s x (turn_after f s x) refl m)

-- A refused call ends, and stays as it is

-- what a row does that tells a refusal
record Refusing (c : Call) (p : Phase) (a : Answer) (r : CallState) (v : ℕ) : Type 0 where
  from : refusable p c.state.outcome ≡ true
  own : c.value ≡ Some v
  pending : c.state.outcome ≡ Pending
  ended : r ≡ to Done c.state
  leaves : is_put_or_check p a ≡ false

refused_value : (o : Option ℕ) (v : ℕ) → refused o ≡ Some (ReplyRefused v) → o ≡ Some v
refused_value None v h = absurd (cc)
refused_value (Some u) v h = let z : ReplyRefused u ≡ ReplyRefused v = cc in cc

refused_pending : (b : Bool) (o : Outcome) → fitting b LeaveRefused o ≡ true → o ≡ Pending
refused_pending true Pending h = refl
refused_pending false Pending h = refl
refused_pending true (New i) h = absurd (cc)
refused_pending true (Existing i) h = absurd (cc)
refused_pending false (New i) h = absurd (cc)
refused_pending false (Existing i) h = absurd (cc)

failed_refusable : (o : Outcome) → o ≡ Pending → refusable LeaveFailed o ≡ true
failed_refusable o e = rw e refl

pub found_unrefused : (d : Option Entry) (u v : ℕ) → found_entry d u ≡ Some (ReplyRefused v) → ⊥
found_unrefused None u v h = cc
found_unrefused (Some d) u v h = cc

pub outcome_unrefused : (o : Outcome) (t : Table) (s : CallState) (u : Option ℕ) (v : ℕ) → reply_of_outcome o t s u ≡ Some (ReplyRefused v) → ⊥
outcome_unrefused (New i) t s (Some u) v h = cc
outcome_unrefused (Existing i) t s (Some u) v h = found_unrefused (bucket_in (walked_gen t s) i) u v h
outcome_unrefused Pending t s u v h = cc
outcome_unrefused (New i) t s None v h = cc
outcome_unrefused (Existing i) t s None v h = cc

row_refusing : (w : World) (c : Call) {p : Phase} {x : Event} {a : Answer} {r : CallState} {ls : List ℕ} {t : Table} {o : Option Reply} → Row w c p x a r ls t o → fitting (is_some c.value) p c.state.outcome ≡ true → (v : ℕ) → o ≡ Some (ReplyRefused v) → Refusing c p a r v
row_refusing w c (leaves_refused n) f v h = record { from = refl; own = refused_value c.value v h; pending = refused_pending (is_some c.value) c.state.outcome f; ended = refl; leaves = refl }
row_refusing w c (gives_up n e d) f v h = let o = pending_of c.state.outcome e in record { from = failed_refusable c.state.outcome o; own = refused_value c.value v h; pending = o; ended = refl; leaves = refl }
row_refusing w c (small n g k d) f v h = absurd (outcome_unrefused c.state.outcome w.table c.state c.value v h)
row_refusing w c (ends n k) f v h = absurd (outcome_unrefused c.state.outcome w.table c.state c.value v h)
row_refusing w c (ends_failed n k) f v h = absurd (outcome_unrefused c.state.outcome w.table c.state c.value v h)
row_refusing w c _ f v h = absurd (cc)

module _ (f : ℕ) (inv : (s : List Event) → Inv (after f s) (placed (empty f) s) (replies (empty f) s)) where
  -- a finished call stays as it is
  done_turn : (s : List Event) (x : Event) (i : ℕ) (c : Call) {v : World} {a : Option Act} {r : Option Finished} → Turn (after f s) x a v r → c.state.phase ≡ Done → slice_get (after f s).calls i ≡ Some c → slice_get v.calls i ≡ Some c
  done_turn s x i c rests e g = g
  done_turn s x i c (opens n v p h ra op us nv) e g = get-push_before (after f s).calls (starts n v p h ∷ []) i c g
  done_turn s x i c (takes j d p a st list t o at k row nu) e g = get-set_other (after f s).calls j i (left d st list) (λ q.
      absurd (let same : d ≡ c = (let z : Some d ≡ Some c = sym at ∙ subst (λ m. slice_get (after f s).calls m ≡ Some c) (sym q) g in cc) in
      let done : p ≡ Done = sym k ∙ ap (λ (b : Call). b.state.phase) same ∙ e in
      let z : is_done p ≡ true = ap is_done done in
      let n : is_done p ≡ false = row_not_done (after f s) d row in cc)) ∙ g

  done_stays : (s more : List Event) (i : ℕ) (c : Call) → c.state.phase ≡ Done → slice_get (after f s).calls i ≡ Some c → slice_get (after f (s ++ more)).calls i ≡ Some c
  done_stays s more i c e g = by_snoc_from (λ t. slice_get (after f t).calls i ≡ Some c) (λ t x h. done_turn t x i c (turn_after f t x) e h) more s g

  -- what weighs nothing where it is picked weighs nothing
  no_pick : (v : ℕ) (b : Bool) (o : Option ℕ) → (1 ≤ weigh (mark v) (picks b o) → b ≡ false) → weigh (mark v) (picks b o) ≡ 0
  no_pick v false o h = refl
  no_pick v true o h = elim (cases_lt (weigh (mark v) (picks true o)) 1) [ inl y ↦ omega arith | inr y ↦ absurd (let z : true ≡ false = h y in cc) ]

  -- the value of a call that has ended without an outcome is not placed
  unplaced : (s : List Event) (i : ℕ) (c : Call) (v : ℕ) → slice_get (after f s).calls i ≡ Some c → c.state.phase ≡ Done → c.state.outcome ≡ Pending → c.value ≡ Some v → count_of v (placed (empty f) s) ≡ 0
  unplaced s i c v g e o own =
      let none : weigh (λ (d : Call). weigh (mark v) (picks (in_table d.state.phase d.state.outcome) d.value)) (after f s).calls ≡ 0 = none_of (λ (d : Call). weigh (mark v) (picks (in_table d.state.phase d.state.outcome) d.value)) (after f s).calls (λ j d h.
      no_pick v (in_table d.state.phase d.state.outcome) d.value (λ k.
      let same : j ≡ i = (inv s).valued.apart j i d c v h g (picked_own v (in_table d.state.phase d.state.outcome) d.value k) own in
      let call : d ≡ c = (let z : Some d ≡ Some c = sym h ∙ subst (λ m. slice_get (after f s).calls m ≡ Some c) (sym same) g in cc) in
      rw (call, e, o) refl)) in
      omega (arith, none, (inv s).placing.table (mark v))

  refusal_turn : (s : List Event) (x : Event) (n u : ℕ) {v : World} {a : Option Act} {o : Option Finished} → Turn (after f s) x a v o → acts (after f s) x ≡ a → v ≡ after f (s ++ x ∷ []) → o ≡ Some (record { call = n; reply = ReplyRefused u }) → IsRefusal f (s ++ x ∷ []) n u
  refusal_turn s x n u rests took next h = absurd (cc)
  refusal_turn s x n u (opens _ _ _ _ _ _ _ _) took next h = absurd (cc)
  refusal_turn s x n u (takes i c p a st ls t o g e row nu) took next h =
      let reply : (o ≡ Some (ReplyRefused u)) × (c.number ≡ n) = reply_by_row c.number o (record { call = n; reply = ReplyRefused u }) h in
      let r : Refusing c p a st u = row_refusing (after f s) c row (fit_at c _ p ((inv s).calls.at i c g) e) u reply.0 in
      let leaves : answers_so is_put_or_check (acts (after f s) x) c.number ≡ false = rw (took, e, r.leaves) refl in
      let k : Caused f (s ++ x ∷ []) c = caused_later f s x c leaves (all_caused f inv s i c g (rw e r.from)) in
      let after_it : slice_get (after f (s ++ x ∷ [])).calls i ≡ Some (left c (to Done c.state) ls) = subst (λ (w : World). slice_get w.calls i ≡ Some (left c (to Done c.state) ls)) next (rw r.ended (get-set_same (after f s).calls i c (left c (to Done c.state) ls) g)) in
      subst (λ m. IsRefusal f (s ++ x ∷ []) m u) reply.1 (record {
        at = k.at;
        cause = k.cause;
        last = k.last;
        never = λ more. count_by-count_of u _ ∙ unplaced ((s ++ x ∷ []) ++ more) i (left c (to Done c.state) ls) u (done_stays (s ++ x ∷ []) more i (left c (to Done c.state) ls) refl after_it) refl r.pending r.own;
      })

  pub refusal_causes : (s : List Event) (x : Event) (n v : ℕ) → RefusalCauses f s x n v
  refusal_causes s x n v h = refusal_turn s x n v (turn_after f s x) refl refl h
