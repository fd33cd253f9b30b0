-- A call is finished exactly when it was told its reply.
use Rattle.std.proofs.Common.{ℕ, ◌≡◌, ◌++◌, inl, inr, List, [], ◌∷◌, Bool, true, false, refl, Option, Some, None, sym, subst, ap, ◌∙◌}
use Rattle.std.specs.Prelude.{◌==◌, ◌||◌, if◌then◌else◌, option_to_list}
use Rattle.std.specs.Option.{is_some}
use Rattle.std.specs.List.{slice_get}
use Rattle.table_core.specs.Replies.{Reply, Finished}
use Rattle.table_core.specs.Generations.{Table, bucket_in}
use Rattle.table_terms.specs.Capacities.{IsFirstCapacity}
use Rattle.table_core.specs.Calls.{Call, starts, is_used, call_numbered, is_done, is_finished, is_pending}
use Rattle.table_core.specs.Machine.{World, empty, walked_gen, refused, reply_of_outcome, Act, finishes, finished_call, after}
use Rattle.table_core.specs.History.{replies, fate}
use Rattle.table_core.specs.Steps.{Row, leaves_refused, small, ends, ends_failed, gives_up, looks_none, look_empty, look_meets, look_turns, look_turns_unasked, len_none, len_size, walk_none, walk_skips_last, walk_takes_last, Opens, opens_insert, opens_lookup, opens_len, opens_walk, left}
use Rattle.table_core.specs.declared.event.Event.{Event}
use Rattle.table_core.specs.declared.generation.Entry.{Entry}
use Rattle.table_core.specs.declared.call.CallState.{CallState}
use Rattle.table_core.specs.declared.call.Phase.{Phase}
use Rattle.table_core.specs.declared.call.Phase.TheVariants.{LeaveRefused, AskSize, LeaveOwned, LeaveFailed}
use Rattle.table_core.specs.declared.call.Outcome.{Outcome}
use Rattle.table_core.specs.declared.call.Outcome.TheVariants.{Pending, New, Existing}
use Rattle.table_core.specs.declared.call.Answer.{Answer}
use Rattle.table_core.specs.Values.{ToldAtEnd}
use Rattle.table_core.proofs.Lists.{get-set, get-push}
use Rattle.std.specs.Cmp.{both_ways}
use Rattle.table_core.proofs.Turns.{Turn, rests, opens, takes, slot}
use Rattle.table_core.proofs.Standing.{fitting, Each, of_each, implies, imply}
use Rattle.table_core.proofs.Facts.{Met}
use Rattle.table_core.proofs.Contents.{fit_at}
use Rattle.table_core.proofs.Numbers.{unused_at}
use Rattle.table_core.proofs.Places.{asks_known}
use Rattle.table_core.proofs.Invariant.{inv}
use Rattle.table_core.proofs.Pasts.{replies_snoc, turn_after, by_snoc}
use Rattle.table_core.proofs.Callings.{Has, has_same, IsDone, telling}
use Rattle.table_core.proofs.OneHistory.{fate_till, find_is, fate_prefix}
use Rattle.table_core.proofs.ToldOnce.{done_after}

-- A row that ends its call tells it something

-- a call in this phase is an insert
abbrev has_value : Phase → Bool → Outcome → Bool
has_value p b o = implies (fitting b p o) b

some_value : (p : Phase) → Each (has_value p) → (v : Option ℕ) (o : Outcome) → fitting (is_some v) p o ≡ true → is_some v ≡ true
some_value p h v o k = imply (fitting (is_some v) p o) (is_some v) (of_each (has_value p) h (is_some v) o) k

refused_some : (v : Option ℕ) → is_some v ≡ true → is_some (refused v) ≡ true
refused_some None h = absurd (cc)
refused_some (Some v) h = refl

outcome_some : (t : Table) (s : CallState) (o : Outcome) (v : Option ℕ) → is_some v ≡ true → is_pending o ≡ false → ((i : ℕ) → o ≡ Existing i → (e : Entry) × (bucket_in (walked_gen t s) i ≡ Some e)) → is_some (reply_of_outcome o t s v) ≡ true
outcome_some t s o None h n m = absurd (cc)
outcome_some t s Pending (Some v) h n m = absurd (cc)
outcome_some t s (New i) (Some v) h n m = refl
outcome_some t s (Existing i) (Some v) h n m = rw (m i refl).1 refl

row_tells_end : (w : World) (c : Call) {p : Phase} {x : Event} {a : Answer} {r : CallState} {ls : List ℕ} {t : Table} {q : Option Reply} → Row w c p x a r ls t q → fitting (is_some c.value) p c.state.outcome ≡ true → Met w.table.gens c → is_done r.phase ≡ true → is_some q ≡ true
row_tells_end w c (leaves_refused _) f m d = refused_some c.value (some_value LeaveRefused (refl, λ i. refl, λ i. refl, refl, λ i. refl, λ i. refl) c.value c.state.outcome f)
row_tells_end w c (small _ _ _ _) f m d = outcome_some w.table c.state c.state.outcome c.value (some_value AskSize (refl, λ i. refl, λ i. refl, refl, λ i. refl, λ i. refl) c.value c.state.outcome f) (asks_known (is_some c.value) c.state.outcome f) m.there
row_tells_end w c (ends _ n) f m d = outcome_some w.table c.state c.state.outcome c.value (some_value LeaveOwned (refl, λ i. refl, λ i. refl, refl, λ i. refl, λ i. refl) c.value c.state.outcome f) n m.there
row_tells_end w c (ends_failed _ n) f m d = outcome_some w.table c.state c.state.outcome c.value (some_value LeaveFailed (refl, λ i. refl, λ i. refl, refl, λ i. refl, λ i. refl) c.value c.state.outcome f) n m.there
row_tells_end w c (gives_up _ _ _) f m d = refused_some c.value (some_value LeaveFailed (refl, λ i. refl, λ i. refl, refl, λ i. refl, λ i. refl) c.value c.state.outcome f)
row_tells_end w c (looks_none _ _) f m d = refl
row_tells_end w c (look_empty _ _ _) f m d = refl
row_tells_end w c (look_meets _ _ _ _ _) f m d = refl
row_tells_end w c (look_turns _ _ _ _ _ _) f m d = refl
row_tells_end w c (look_turns_unasked _ _ _ _ _ _) f m d = refl
row_tells_end w c (len_none _ _) f m d = refl
row_tells_end w c (len_size _ _ _) f m d = refl
row_tells_end w c (walk_none _ _) f m d = refl
row_tells_end w c (walk_skips_last _ _ _ _) f m d = refl
row_tells_end w c (walk_takes_last _ _ _ _ _) f m d = refl
row_tells_end w c _ f m d = absurd (cc)

-- So each finished call was told something

abbrev DoneAreTold : ℕ → List Event → World → Type 0
DoneAreTold f s v = (i : ℕ) (c : Call) → slice_get v.calls i ≡ Some c → IsDone c → is_some (fate (empty f) s c.number) ≡ true

told_later : (f : ℕ) (s : List Event) (x : Event) (n : ℕ) → is_some (fate (empty f) s n) ≡ true → (o : Option Finished) → fate (empty f) (s ++ x ∷ []) n ≡ o → is_some o ≡ true
told_later f s x n h None e =
    let z : fate (empty f) s n ≡ None = fate_prefix n (replies (empty f) s) (option_to_list (finishes (after f s) x)) (rw (replies_snoc f s x) at e) in
    absurd (let y : false ≡ true = ap is_some (sym z) ∙ h in cc)
told_later f s x n h (Some r) e = refl

told_now : (f : ℕ) → IsFirstCapacity f → (s : List Event) (x : Event) (n : ℕ) (o : Option Reply) → is_some o ≡ true → finishes (after f s) x ≡ finished_call n o → is_some (fate (empty f) (s ++ x ∷ []) n) ≡ true
told_now f h s x n None t e = absurd (cc)
told_now f h s x n (Some q) t e = ap is_some (fate_till f h [] s x [] (record { call = n; reply = q }) e)

opens_not_done : {x : Event} {n : ℕ} {v : Option ℕ} {p : Phase} {h : ℕ} → Opens x n v p h → is_done p ≡ false
opens_not_done (opens_insert _ _ _) = refl
opens_not_done (opens_lookup _ _) = refl
opens_not_done (opens_len _) = refl
opens_not_done (opens_walk _) = refl

done_told_turn : (f : ℕ) → IsFirstCapacity f → (s : List Event) (x : Event) {v : World} {a : Option Act} {r : Option Finished} → Turn (after f s) x a v r → finishes (after f s) x ≡ r → DoneAreTold f s (after f s) → DoneAreTold f (s ++ x ∷ []) v
done_told_turn f h s x rests e m i c g d = told_later f s x c.number (m i c g d) _ refl
done_told_turn f h s x (opens n v p k ra op us nv) e m i c g d = elim (get-push (after f s).calls (starts n v p k) c i g) [
  | inl y ↦ absurd (let z : is_done c.state.phase ≡ is_done p = ap (λ (b : Call). is_done b.state.phase) y.1 in let u : is_done p ≡ false = opens_not_done op in cc)
  | inr y ↦ told_later f s x c.number (m i c y d) _ refl
]
done_told_turn f h s x (takes i b p a st list t q g row_phase row nu) e m j c k d = elim (get-set (after f s).calls i j b (left b st list) c g k) [
  | inl y ↦ (let d2 : is_done st.phase ≡ true = ap (λ (z : Call). is_done z.state.phase) (sym y.1) ∙ d in
      let o = inv f h s in
      let tells : is_some q ≡ true = row_tells_end (after f s) b row (fit_at b _ p (o.calls.at i b g) row_phase) (o.tracked.at i b g).met d2 in
      subst (λ n. is_some (fate (empty f) (s ++ x ∷ []) n) ≡ true) (sym (ap (λ (z : Call). z.number) y.1)) (told_now f h s x b.number q tells e))
  | inr y ↦ told_later f s x c.number (m j c y.1 d) _ refl
]

done_are_told : (f : ℕ) → IsFirstCapacity f → (s : List Event) → DoneAreTold f s (after f s)
done_are_told f h = by_snoc (λ s. DoneAreTold f s (after f s)) (λ i c g d. absurd (cc)) (λ s x m. done_told_turn f h s x (turn_after f s x) refl m)

-- The call of a number

unnumbered_if : (n : ℕ) (x : Call) (cs : List Call) (b : Bool) → (if b then Some x else call_numbered n cs) ≡ None → (call_numbered n cs ≡ None → is_used n cs ≡ false) → (b || is_used n cs) ≡ false
unnumbered_if n x cs true h k = absurd (cc)
unnumbered_if n x cs false h k = k h

-- where no call has this number, it is unused
unnumbered : (n : ℕ) (cs : List Call) → call_numbered n cs ≡ None → is_used n cs ≡ false
unnumbered n [] h = refl
unnumbered n (x ∷ cs) h = unnumbered_if n x cs (x.number == n) h (unnumbered n cs)

finished_told : (f : ℕ) → IsFirstCapacity f → (s : List Event) (n : ℕ) (o : Option Call) → call_numbered n (after f s).calls ≡ o → is_finished o ≡ true → is_some (fate (empty f) s n) ≡ true
finished_told f h s n None e d = absurd (cc)
finished_told f h s n (Some c) e d =
    let i = slot n (after f s).calls c e in
    subst (λ m. is_some (fate (empty f) s m) ≡ true) i.number (done_are_told f h s i.at c i.there d)

done_finished : (f : ℕ) → IsFirstCapacity f → (s : List Event) (n : ℕ) → Has IsDone (after f s) n → (o : Option Call) → call_numbered n (after f s).calls ≡ o → is_finished o ≡ true
done_finished f h s n d None e = absurd (unused_at n (after f s).calls d.at d.call (unnumbered n (after f s).calls e) d.there d.number)
done_finished f h s n d (Some c) e = let i = slot n (after f s).calls c e in has_same IsDone (after f s) n i.at c (inv f h s).numbered d i.there i.number

told_finished : (f : ℕ) → IsFirstCapacity f → (s : List Event) (n : ℕ) (o : Option Finished) → fate (empty f) s n ≡ o → is_some o ≡ true → is_finished (call_numbered n (after f s).calls) ≡ true
told_finished f h s n None e t = absurd (cc)
told_finished f h s n (Some r) e t =
    let d : Has IsDone (after f s) n = subst (λ m. Has IsDone (after f s) m) (telling s (empty f) n r e).number (done_after f h s r (find_is n (replies (empty f) s) r e)) in
    done_finished f h s n d _ refl

pub told_at_end : (f : ℕ) (s : List Event) (n : ℕ) → IsFirstCapacity f → ToldAtEnd f s n
told_at_end f s n h = both_ways _ _ (finished_told f h s n _ refl) (told_finished f h s n _ refl)
