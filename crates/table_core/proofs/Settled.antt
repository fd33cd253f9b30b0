-- A call passes the moment of its reply once.
use Rattle.std.proofs.Common.{ℕ, ◌≡◌, ◌++◌, ◌⊎◌, inl, inr, List, [], ◌∷◌, Bool, true, false, refl, Option, Some, sym, subst, ap, ◌∙◌}
use Rattle.std.specs.Prelude.{◌==◌, ◌||◌, not}
use Rattle.table_core.specs.Replies.{Reply, ReplyPlaced, ReplyFound, ReplyRefused, ReplySome, ReplyNone, ReplyLen, ReplyWalk}
use Rattle.table_core.specs.Generations.{Table}
use Rattle.table_terms.specs.Capacities.{IsFirstCapacity}
use Rattle.table_core.specs.Calls.{Call}
use Rattle.table_core.specs.Machine.{World, Goes, acts, run, after}
use Rattle.table_core.specs.History.{answers_so, has_later}
use Rattle.table_core.specs.Steps.{Row, shares, meets, puts, loses_meets, adds, looks_none, looks, look_empty, look_meets, look_turns, look_turns_unasked, look_goes_on, look_goes_on_unasked, left}
use Rattle.table_core.specs.declared.event.Event.{Event}
use Rattle.table_core.specs.declared.call.CallState.{CallState}
use Rattle.table_core.specs.declared.call.Phase.{Phase}
use Rattle.table_core.specs.declared.call.Phase.TheVariants.{Probe, AtEmpty, Placed, LeaveOk, Owned, LookLoad, LookProbe, Done}
use Rattle.table_core.specs.declared.call.Outcome.{Outcome}
use Rattle.table_core.specs.declared.call.Outcome.TheVariants.{Existing}
use Rattle.table_core.specs.declared.call.Answer.{Answer}
use Rattle.table_core.specs.declared.call.Answer.TheVariants.{Empty, Failed}
use Rattle.table_core.proofs.Lists.{get-set_same}
use Rattle.table_core.proofs.Locks.{more}
use Rattle.std.proofs.Common.{append_assoc}
use Rattle.std.proofs.lemmas.Bool.{eq-eqb}
use Rattle.std.specs.Option.{is_some}
use Rattle.table_core.specs.Lists.{is_moment, may_be_refused, is_refusal}
use Rattle.table_core.proofs.Pasts.{has_later_append}
use Rattle.table_core.proofs.Standing.{fitting, Each, of_each, implies, imply}
use Rattle.table_core.proofs.Facts.{in_table}
use Rattle.table_core.proofs.Places.{by_class, in_put}
use Rattle.table_core.proofs.Invariant.{inv}
use Rattle.table_core.proofs.Callings.{took_after, Has, Kept, has_after, has_same, run_after}
use Rattle.table_core.proofs.Truth.{not_both_ways}
use Rattle.std.proofs.lemmas.Bool.{or_right}

abbrev pub is_existing : Outcome → Bool
is_existing (Existing _) = true
is_existing _ = false

-- a call has passed the moment of this reply
abbrev pub settled : Reply → Phase → Outcome → Bool
settled ReplyNone LookProbe o = true
settled ReplyNone Done o = true
settled (ReplySome e) Done o = true
settled (ReplyPlaced v) p o = in_table p o
settled (ReplyFound e v) p o = is_existing o
settled _ p o = false

abbrev pub IsSettled : Reply → Call → Type 0
IsSettled t c = settled t c.state.phase c.state.outcome ≡ true

-- It stays so

pub none_stays : (w : World) (c : Call) {p : Phase} {x : Event} {a : Answer} {r : CallState} {ls : List ℕ} {t : Table} {q : Option Reply} → Row w c p x a r ls t q → settled ReplyNone p c.state.outcome ≡ true → settled ReplyNone r.phase r.outcome ≡ true
none_stays w c (look_empty _ _ _) h = refl
none_stays w c (look_meets _ _ _ _ _) h = refl
none_stays w c (look_turns _ _ _ _ _ _) h = refl
none_stays w c (look_turns_unasked _ _ _ _ _ _) h = refl
none_stays w c (look_goes_on _ _ _ _ _ _) h = refl
none_stays w c (look_goes_on_unasked _ _ _ _ _ _) h = refl
none_stays w c _ h = absurd (cc)

pub some_stays : (w : World) (c : Call) (e : ℕ) {p : Phase} {x : Event} {a : Answer} {r : CallState} {ls : List ℕ} {t : Table} {q : Option Reply} → Row w c p x a r ls t q → settled (ReplySome e) p c.state.outcome ≡ true → settled (ReplySome e) r.phase r.outcome ≡ true
some_stays w c e (shares _ _) h = absurd (cc)
some_stays w c e _ h = absurd (cc)

pub placed_stays : (w : World) (c : Call) {p : Phase} {x : Event} {a : Answer} {r : CallState} {ls : List ℕ} {t : Table} {q : Option Reply} → Row w c p x a r ls t q → fitting (is_some c.value) p c.state.outcome ≡ true → in_table p c.state.outcome ≡ true → in_table r.phase r.outcome ≡ true
placed_stays w c (puts _ _ _) f h = refl
placed_stays w c (meets _ _ _ _ _) f h = by_class Probe LeaveOk (λ _. Existing c.state.index) (refl, λ i. refl, λ i. refl, refl, λ i. refl, λ i. refl) (is_some c.value) c.state.outcome f ∙ h
placed_stays w c (loses_meets _ _ _ _ _) f h = by_class AtEmpty LeaveOk (λ _. Existing c.state.index) (refl, λ i. refl, λ i. refl, refl, λ i. refl, λ i. refl) (is_some c.value) c.state.outcome f ∙ h
placed_stays w c (adds _) f h = refl
placed_stays w c (look_meets _ _ _ _ _) f h = by_class LookProbe Done (λ _. Existing c.state.index) (refl, λ i. refl, λ i. refl, refl, λ i. refl, λ i. refl) (is_some c.value) c.state.outcome f ∙ h
placed_stays w c {p = p} {r = r} _ f h = by_class p r.phase (λ o. o) (refl, λ i. refl, λ i. refl, refl, λ i. refl, λ i. refl) (is_some c.value) c.state.outcome f ∙ h

abbrev never_existing : Phase → Bool → Outcome → Bool
never_existing p b o = implies (fitting b p o) (not (is_existing o))

pub not_existing : (p : Phase) → Each (never_existing p) → (b : Bool) (o : Outcome) → fitting b p o ≡ true → is_existing o ≡ true → ⊥
not_existing p h b o f k = not_both_ways (is_existing o) (imply (fitting b p o) _ (of_each (never_existing p) h b o) f) k

pub found_stays : (w : World) (c : Call) {p : Phase} {x : Event} {a : Answer} {r : CallState} {ls : List ℕ} {t : Table} {q : Option Reply} → Row w c p x a r ls t q → fitting (is_some c.value) p c.state.outcome ≡ true → is_existing c.state.outcome ≡ true → is_existing r.outcome ≡ true
found_stays w c (meets _ _ _ _ _) f h = refl
found_stays w c (loses_meets _ _ _ _ _) f h = refl
found_stays w c (look_meets _ _ _ _ _) f h = refl
found_stays w c (adds _) f h = absurd (not_existing Placed (refl, λ i. refl, λ i. refl, refl, λ i. refl, λ i. refl) (is_some c.value) c.state.outcome f h)
found_stays w c _ f h = h

pub settled_stays : (t : Reply) → Kept (IsSettled t)
settled_stays ReplyNone w c p x a r ls t q row e f h = none_stays w c row (ap (λ z. settled ReplyNone z c.state.outcome) (sym e) ∙ h)
settled_stays (ReplySome n) w c p x a r ls t q row e f h = some_stays w c n row (ap (λ z. settled (ReplySome n) z c.state.outcome) (sym e) ∙ h)
settled_stays (ReplyPlaced v) w c p x a r ls t q row e f h = placed_stays w c row f (ap (λ z. in_table z c.state.outcome) (sym e) ∙ h)
settled_stays (ReplyFound n v) w c p x a r ls t q row e f h = found_stays w c row f h
settled_stays (ReplyRefused v) w c p x a r ls t q row e f h = absurd (cc)
settled_stays (ReplyLen k) w c p x a r ls t q row e f h = absurd (cc)
settled_stays (ReplyWalk es) w c p x a r ls t q row e f h = absurd (cc)

-- It comes with the moment

pub none_now : (w : World) (c : Call) {p : Phase} {x : Event} {a : Answer} {r : CallState} {ls : List ℕ} {t : Table} {q : Option Reply} → Row w c p x a r ls t q → is_moment ReplyNone p a ≡ true → settled ReplyNone r.phase r.outcome ≡ true
none_now w c (looks_none _ _) h = refl
none_now w c (looks _ _ _) h = refl
none_now w c _ h = absurd (cc)

pub some_now : (w : World) (c : Call) (n : ℕ) {p : Phase} {x : Event} {a : Answer} {r : CallState} {ls : List ℕ} {t : Table} {q : Option Reply} → Row w c p x a r ls t q → is_moment (ReplySome n) p a ≡ true → settled (ReplySome n) r.phase r.outcome ≡ true
some_now w c n (look_meets _ _ _ _ _) h = refl
some_now w c n _ h = absurd (cc)

pub placed_now : (w : World) (c : Call) (v : ℕ) {p : Phase} {x : Event} {a : Answer} {r : CallState} {ls : List ℕ} {t : Table} {q : Option Reply} → Row w c p x a r ls t q → is_moment (ReplyPlaced v) p a ≡ true → in_table r.phase r.outcome ≡ true
placed_now w c v (puts _ _ _) h = refl
placed_now w c v _ h = absurd (cc)

pub found_now : (w : World) (c : Call) (n v : ℕ) {p : Phase} {x : Event} {a : Answer} {r : CallState} {ls : List ℕ} {t : Table} {q : Option Reply} → Row w c p x a r ls t q → is_moment (ReplyFound n v) p a ≡ true → is_existing r.outcome ≡ true
found_now w c n v (meets _ _ _ _ _) h = refl
found_now w c n v (loses_meets _ _ _ _ _) h = refl
found_now w c n v _ h = absurd (cc)

pub settled_now : (t : Reply) (w : World) (c : Call) {p : Phase} {x : Event} {a : Answer} {r : CallState} {ls : List ℕ} {b : Table} {q : Option Reply} → Row w c p x a r ls b q → is_moment t p a ≡ true → is_refusal t ≡ false → settled t r.phase r.outcome ≡ true
settled_now ReplyNone w c row h k = none_now w c row h
settled_now (ReplySome n) w c row h k = some_now w c n row h
settled_now (ReplyPlaced v) w c row h k = placed_now w c v row h
settled_now (ReplyFound n v) w c row h k = found_now w c n v row h
settled_now (ReplyRefused v) w c row h k = absurd (cc)
settled_now (ReplyLen n) w c row h k = absurd (cc)
settled_now (ReplyWalk es) w c row h k = absurd (cc)

-- It isn't so at the moment

pub moment_at_load : (p : Phase) (a : Answer) → is_moment ReplyNone p a ≡ true → p ≡ LookLoad
moment_at_load LookLoad a h = refl
moment_at_load _ a h = absurd (cc)

pub moment_at_look : (n : ℕ) (p : Phase) (a : Answer) → is_moment (ReplySome n) p a ≡ true → p ≡ LookProbe
moment_at_look n LookProbe a h = refl
moment_at_look n _ a h = absurd (cc)

pub moment_at_put : (v : ℕ) (p : Phase) (a : Answer) → is_moment (ReplyPlaced v) p a ≡ true → p ≡ AtEmpty
moment_at_put v AtEmpty a h = refl
moment_at_put v _ a h = absurd (cc)

pub moment_at_entry : (n v : ℕ) (p : Phase) (a : Answer) → is_moment (ReplyFound n v) p a ≡ true → (p ≡ Probe) ⊎ (p ≡ AtEmpty)
moment_at_entry n v Probe a h = inl refl
moment_at_entry n v AtEmpty a h = inr refl
moment_at_entry n v _ a h = absurd (cc)

pub unsettled : (t : Reply) (b : Bool) (p : Phase) (o : Outcome) (a : Answer) → fitting b p o ≡ true → is_moment t p a ≡ true → settled t p o ≡ true → ⊥
unsettled ReplyNone b p o a f h s = let e = moment_at_load p a h in let z : settled ReplyNone LookLoad o ≡ true = rw e at s in cc
unsettled (ReplySome n) b p o a f h s = let e = moment_at_look n p a h in let z : settled (ReplySome n) LookProbe o ≡ true = rw e at s in cc
unsettled (ReplyPlaced v) b p o a f h s = let e = moment_at_put v p a h in let z : in_table AtEmpty o ≡ true = rw e at s in let g : fitting b AtEmpty o ≡ true = rw e at f in let y : in_table AtEmpty o ≡ false = in_put b o g in cc
unsettled (ReplyFound n v) b p o a f h s = elim (moment_at_entry n v p a h) [
  | inl e ↦ not_existing Probe (refl, λ i. refl, λ i. refl, refl, λ i. refl, λ i. refl) b o (rw e at f) s
  | inr e ↦ not_existing AtEmpty (refl, λ i. refl, λ i. refl, refl, λ i. refl, λ i. refl) b o (rw e at f) s
]
unsettled (ReplyRefused v) b p o a f h s = cc
unsettled (ReplyLen n) b p o a f h s = cc
unsettled (ReplyWalk es) b p o a f h s = cc

-- so a call passes it once
pub moment_once : (f : ℕ) → IsFirstCapacity f → (t : Reply) (s : List Event) (x : Event) (es : List Event) (y : Event) (n : ℕ) (c d : Call) (a b : Answer) → acts (after f s) x ≡ Some (Goes c a) → c.number ≡ n → is_moment t c.state.phase a ≡ true → acts (after f (s ++ x ∷ es)) y ≡ Some (Goes d b) → d.number ≡ n → is_moment t d.state.phase b ≡ true → is_refusal t ≡ false → ⊥
moment_once f i t s x es y n c d a b h e m k g o u =
    let p = took_after f s x c a h in
    let q = took_after f (s ++ x ∷ es) y d b k in
    let j : Has (IsSettled t) (after f (s ++ x ∷ [])) n = rw p.after (record { at = p.at; call = left c p.state p.list; there = get-set_same (after f s).calls p.at c (left c p.state p.list) p.there; number = e; holds = settled_now t (after f s) c p.row (ap (λ z. is_moment t z a) (sym p.was) ∙ m) u }) in
    let v : Has (IsSettled t) (after f ((s ++ x ∷ []) ++ es)) n = has_after (IsSettled t) (settled_stays t) f i (s ++ x ∷ []) es n j in
    let w : Has (IsSettled t) (after f (s ++ x ∷ es)) n = subst (λ z. Has (IsSettled t) (after f z) n) (append_assoc s (x ∷ []) es) v in
    let iv = inv f i (s ++ x ∷ es) in
    let z : settled t d.state.phase d.state.outcome ≡ true = has_same (IsSettled t) (after f (s ++ x ∷ es)) n q.at d iv.numbered w q.there g in
    unsettled t (is_some d.value) d.state.phase d.state.outcome b (iv.calls.at q.at d q.there).fits o z

-- Refusals

pub refusal_try : (t : Reply) (p : Phase) (a : Answer) → is_moment t p a ≡ true → is_refusal t ≡ true → may_be_refused p a ≡ true
refusal_try (ReplyRefused v) Probe Empty h k = refl
refusal_try (ReplyRefused v) Owned Failed h k = refl
refusal_try (ReplyRefused v) p a h k = absurd (cc)
refusal_try t p a h k = absurd (cc)

pub or_left : (a b : Bool) → a ≡ true → (a || b) ≡ true
or_left true b h = refl
or_left false b h = absurd (cc)

-- an answer that comes later is found
pub later_found : (k : Phase → Answer → Bool) (f : ℕ) (s es : List Event) (y : Event) (more : List Event) (n : ℕ) (d : Call) (b : Answer) → acts (after f (s ++ es)) y ≡ Some (Goes d b) → d.number ≡ n → k d.state.phase b ≡ true → has_later k (after f s) (es ++ y ∷ more) n ≡ true
later_found k f s es y more n d b h e m =
    let w : acts (run (after f s) es) y ≡ Some (Goes d b) = rw (run_after f s es) h in
    let q : (d.number == n) ≡ true = eq-eqb d.number n e in
    let z : answers_so k (acts (run (after f s) es) y) n ≡ true = ap (λ o. answers_so k o n) w ∙ rw (m, q) refl in
    has_later_append k es (y ∷ more) (after f s) n ∙ or_right _ _ (or_left _ _ z)
