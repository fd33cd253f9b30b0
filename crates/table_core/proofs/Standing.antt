-- What each call's phase says of its outcome, its value and its generation.
use Rattle.std.proofs.Common.{ℕ, suc, ◌≡◌, ◌+◌, ◌-◌, ◌≤◌, ◌⊎◌, inl, inr, List, [], ◌∷◌, Bool, true, false, refl, Option, Some, None, length, sym, ap, arith, ◌∙◌}
use Rattle.std.specs.Prelude.{◌&&◌, ◌||◌, not}
use Rattle.std.specs.List.{slice_get}
use Rattle.table_core.specs.Replies.{Reply, Finished}
use Rattle.table_core.specs.Generations.{Gen, Table, fill, count, last_of, change_at, change}
use Rattle.table_terms.specs.Hashes.{bits_of}
use Rattle.table_core.specs.Phases.{AnInsert, HasOutcome, No, Yes, Either, about, is_insert, stands}
use Rattle.table_core.specs.Calls.{Call, starts, holds_shared, holds_owned, is_pending}
use Rattle.table_core.specs.Machine.{World, empty, place, Act}
use Rattle.table_core.specs.Steps.{Row, loads, reads_empty, meets, goes_on, goes_on_unasked, puts, loses_meets, loses_goes_on, loses_goes_on_unasked, adds, shows, starts_over, tries_again, look_meets, Opens, opens_insert, opens_lookup, opens_len, opens_walk, left}
use Rattle.table_core.specs.declared.event.Event.{Event}
use Rattle.table_core.specs.declared.call.CallState.{CallState}
use Rattle.table_core.specs.declared.call.Phase.{Phase}
use Rattle.table_core.specs.declared.call.Phase.TheVariants.{WantShared, Probe, AtEmpty, Placed, LeaveOk, Building, LeaveOwned, LeaveFailed, LookProbe, Done}
use Rattle.table_core.specs.declared.call.Outcome.{Outcome}
use Rattle.table_core.specs.declared.call.Outcome.TheVariants.{Pending, New, Existing}
use Rattle.table_core.specs.declared.call.Answer.{Answer}
use Rattle.table_core.proofs.Turns.{Turn, rests, opens, takes}
use Rattle.table_core.proofs.Lists.{weigh-get, get-set, get-push, zero-each}
use Rattle.std.proofs.lemmas.List.{length-set}
use Rattle.table_core.proofs.Locks.{Locked, nobody, alone, sharers, owners, builders, is_owning, is_building, owned_split}
use Rattle.std.specs.Option.{is_some}
use Rattle.table_core.specs.Bound.{one_if}

-- whether a call may have this outcome
abbrev pub may_have : HasOutcome → Outcome → Bool
may_have No o = is_pending o
may_have Yes o = not (is_pending o)
may_have Either o = true

-- whether another call than an insert may have it: such a call places no value
abbrev pub may_find : HasOutcome → Outcome → Bool
may_find h (New _) = false
may_find h o = may_have h o

-- whether a look-up, a length or a walk can be in a phase
abbrev pub can_be_other : Phase → Bool
can_be_other p = elim (about p).caller [ AnInsert ↦ false | _ ↦ true ]

-- which outcomes an insert (true) or another call may have in a phase
abbrev pub fitting : Bool → Phase → Outcome → Bool
fitting true p o = is_insert p && may_have (about p).outcome o
fitting false p o = can_be_other p && may_find (about p).outcome o

-- a test that passes for each kind and outcome
abbrev pub Each : (Bool → Outcome → Bool) → Type 0
Each f = (f true Pending ≡ true) × ((i : ℕ) → f true (New i) ≡ true) × ((i : ℕ) → f true (Existing i) ≡ true) × (f false Pending ≡ true) × ((i : ℕ) → f false (New i) ≡ true) × ((i : ℕ) → f false (Existing i) ≡ true)

pub of_each : (f : Bool → Outcome → Bool) → Each f → (b : Bool) (o : Outcome) → f b o ≡ true
of_each f h true Pending = h.0
of_each f h true (New i) = h.1 i
of_each f h true (Existing i) = h.2 i
of_each f h false Pending = h.3
of_each f h false (New i) = h.4 i
of_each f h false (Existing i) = h.5 i

pub pending_of : (o : Outcome) → is_pending o ≡ true → o ≡ Pending
pending_of Pending h = refl
pending_of (New i) h = absurd (cc)
pending_of (Existing i) h = absurd (cc)

abbrev pub implies : Bool → Bool → Bool
implies a b = not a || b

pub imply : (a b : Bool) → implies a b ≡ true → a ≡ true → b ≡ true
imply true true h k = refl
imply true false h k = absurd (cc)
imply false b h k = absurd (cc)

-- what fits in one phase fits in another, where the outcome goes by f
abbrev goes_by_table : Phase → Phase → (Outcome → Outcome) → Bool → Outcome → Bool
goes_by_table p q f b o = implies (fitting b p o) (fitting b q (f o))

pub by_table : (p q : Phase) (f : Outcome → Outcome) → Each (goes_by_table p q f) → (b : Bool) (o : Outcome) → fitting b p o ≡ true → fitting b q (f o) ≡ true
by_table p q f h b o k = imply (fitting b p o) (fitting b q (f o)) (of_each (goes_by_table p q f) h b o) k

pub restarts_fitting : (p : Phase) → Each (λ b o. implies (fitting b p o) (implies (is_pending o) (fitting b WantShared o))) → (b : Bool) (o : Outcome) → is_pending o ≡ true → fitting b p o ≡ true → fitting b WantShared o ≡ true
restarts_fitting p h b o n k = imply (is_pending o) (fitting b WantShared o) (imply (fitting b p o) _ (of_each (λ b o. implies (fitting b p o) (implies (is_pending o) (fitting b WantShared o))) h b o) k) n

pub move_fitting : (w : World) (c : Call) {p : Phase} {x : Event} {a : Answer} {r : CallState} {ls : List ℕ} {t : Table} {q : Option Reply} → Row w c p x a r ls t q → (b : Bool) → fitting b p c.state.outcome ≡ true → fitting b r.phase r.outcome ≡ true
move_fitting w c (meets _ _ _ _ _) b h = by_table Probe LeaveOk (λ _. Existing c.state.index) (refl, λ i. refl, λ i. refl, refl, λ i. refl, λ i. refl) b c.state.outcome h
move_fitting w c (loses_meets _ _ _ _ _) b h = by_table AtEmpty LeaveOk (λ _. Existing c.state.index) (refl, λ i. refl, λ i. refl, refl, λ i. refl, λ i. refl) b c.state.outcome h
move_fitting w c (adds _) b h = by_table Placed LeaveOk (λ _. New c.state.index) (refl, λ i. refl, λ i. refl, refl, λ i. refl, λ i. refl) b c.state.outcome h
move_fitting w c (starts_over _ n) b h = restarts_fitting LeaveOwned (refl, λ i. refl, λ i. refl, refl, λ i. refl, λ i. refl) b c.state.outcome n h
move_fitting w c (tries_again _ n _) b h = restarts_fitting LeaveFailed (refl, λ i. refl, λ i. refl, refl, λ i. refl, λ i. refl) b c.state.outcome n h
move_fitting w c (look_meets _ _ _ _ _) b h = by_table LookProbe Done (λ _. Existing c.state.index) (refl, λ i. refl, λ i. refl, refl, λ i. refl, λ i. refl) b c.state.outcome h
move_fitting w c {p = p} {r = r} _ b h = by_table p r.phase (λ o. o) (refl, λ i. refl, λ i. refl, refl, λ i. refl, λ i. refl) b c.state.outcome h

abbrev pub IsLast : ℕ → Option ℕ → Type 0
IsLast n w = (k : ℕ) × (w ≡ Some k) × (suc k ≡ n)

pub last_number : (gens : List Gen) (g : Gen) → last_of gens ≡ Some g → suc (length gens - 1) ≡ length gens
last_number [] g h = absurd (cc)
last_number (x ∷ xs) g h = omega arith

pub move_stands : (w : World) (c : Call) {p : Phase} {x : Event} {a : Answer} {r : CallState} {ls : List ℕ} {t : Table} {q : Option Reply} → Row w c p x a r ls t q → (stands p ≡ true → IsLast (length w.table.gens) c.state.walked) → stands r.phase ≡ true → IsLast (length w.table.gens) r.walked
move_stands w c (loads n g h) l k = (length w.table.gens - 1, refl, last_number w.table.gens g h)
move_stands w c (goes_on _ _ _ _ _ _) l k = l refl
move_stands w c (goes_on_unasked _ _ _ _ _ _) l k = l refl
move_stands w c (loses_goes_on _ _ _ _ _ _) l k = l refl
move_stands w c (loses_goes_on_unasked _ _ _ _ _ _) l k = l refl
move_stands w c (reads_empty _ _ _) l k = l refl
move_stands w c (puts _ _ _) l k = l refl
move_stands w c _ l k = absurd (cc)

pub length-change_at : (gens : List Gen) (k : ℕ) (o : Option Gen) (f : Gen → Gen) → length (change_at gens k o f) ≡ length gens
length-change_at gens k None f = refl
length-change_at gens k (Some g) f = length-set gens k (f g)

pub length-change : (gens : List Gen) (w : Option ℕ) (f : Gen → Gen) → length (change gens w f) ≡ length gens
length-change gens None f = refl
length-change gens (Some k) f = length-change_at gens k (slice_get gens k) f

pub length-place : (t : Table) (s : CallState) (v : Option ℕ) → length (place t s v).gens ≡ length t.gens
length-place t s None = refl
length-place t s (Some v) = length-change t.gens s.walked (λ g. fill g (record { index = s.index; value = v; bits = bits_of s.hash }))

-- only the end of a growth adds a generation
pub gens_stay : (w : World) (c : Call) {p : Phase} {x : Event} {a : Answer} {r : CallState} {ls : List ℕ} {t : Table} {q : Option Reply} → Row w c p x a r ls t q → (length t.gens ≡ length w.table.gens) ⊎ (p ≡ Building)
gens_stay w c (puts _ _ _) = inl (length-place w.table c.state c.value)
gens_stay w c (adds _) = inl (length-change w.table.gens c.state.walked count)
gens_stay w c (shows _ _) = inr refl
gens_stay w c _ = inl refl

-- while a call holds the lock alone no call shares it
pub no_sharer : (w : World) → Locked w → (i : ℕ) (c : Call) → slice_get w.calls i ≡ Some c → holds_owned c.state.phase ≡ true → sharers w.calls ≡ 0
no_sharer w l i c h e =
    let o : one_if (is_owning c.state.phase) ≤ owners w.calls = weigh-get (λ (c : Call). one_if (is_owning c.state.phase)) w.calls i c h in
    let b : one_if (is_building c.state.phase) ≤ builders w.calls = weigh-get (λ (c : Call). one_if (is_building c.state.phase)) w.calls i c h in
    let one : one_if true ≡ one_if (is_owning c.state.phase) + one_if (is_building c.state.phase) = ap one_if (sym e) ∙ owned_split c.state.phase in
    elim l.alone [ nobody x y z ↦ absurd (omega arith) | alone x y z q ↦ q ]

pub stands_shares : (p : Phase) → stands p ≡ true → holds_shared p ≡ false → ⊥
stands_shares Probe h k = cc
stands_shares AtEmpty h k = cc
stands_shares Placed h k = cc
stands_shares _ h k = cc

pub record CallOk (n : ℕ) (c : Call) : Type 0 where
  pub fits : fitting (is_some c.value) c.state.phase c.state.outcome ≡ true
  pub stands : stands c.state.phase ≡ true → IsLast n c.state.walked

pub record CallsOk (w : World) : Type 0 where
  pub at : (i : ℕ) (c : Call) → slice_get w.calls i ≡ Some c → CallOk (length w.table.gens) c

pub other_ok : (w : World) → Locked w → (n : ℕ) (i : ℕ) (c : Call) → slice_get w.calls i ≡ Some c → (n ≡ length w.table.gens) ⊎ (c.state.phase ≡ Building) → (j : ℕ) (d : Call) → slice_get w.calls j ≡ Some d → CallOk (length w.table.gens) d → CallOk n d
other_ok w l n i c h (inl e) j d k ok = rw e ok
other_ok w l n i c h (inr e) j d k ok = record {
  fits = ok.fits;
  stands = λ q. absurd (stands_shares d.state.phase q (zero-each (λ (c : Call). holds_shared c.state.phase) w.calls j d (no_sharer w l i c h (ap holds_owned e)) k));
}

pub shown_stands : (w : World) (c : Call) {p : Phase} {x : Event} {a : Answer} {r : CallState} {ls : List ℕ} {t : Table} {q : Option Reply} → Row w c p x a r ls t q → stands r.phase ≡ true → length t.gens ≡ length w.table.gens
shown_stands w c (puts _ _ _) h = length-place w.table c.state c.value
shown_stands w c (adds _) h = absurd (cc)
shown_stands w c (shows _ _) h = absurd (cc)
shown_stands w c _ h = refl

pub moved_ok : (w : World) (c : Call) {p : Phase} {x : Event} {a : Answer} {r : CallState} {ls : List ℕ} {t : Table} {q : Option Reply} → c.state.phase ≡ p → Row w c p x a r ls t q → CallOk (length w.table.gens) c → CallOk (length t.gens) (left c r ls)
moved_ok w c e row ok = record {
  fits = move_fitting w c row (is_some c.value) (rw e at ok.fits);
  stands = λ h. rw (shown_stands w c row h) (move_stands w c row (rw e at ok.stands) h);
}

pub begin_fitting : {x : Event} {n : ℕ} {v : Option ℕ} {p : Phase} {h : ℕ} → Opens x n v p h → (fitting (is_some v) p Pending ≡ true) × (stands p ≡ false)
begin_fitting (opens_insert n v h) = (refl, refl)
begin_fitting (opens_lookup n h) = (refl, refl)
begin_fitting (opens_len n) = (refl, refl)
begin_fitting (opens_walk n) = (refl, refl)

pub keeps_calls : {w v : World} {x : Event} {m : Option Act} {r : Option Finished} → Turn w x m v r → Locked w → CallsOk w → CallsOk v
keeps_calls rests l o = o
keeps_calls {w = w} (opens n v p h r k u f) l o = record {
  at = λ i d g. elim (get-push w.calls (starts n v p h) d i g) [
    | inl q ↦ rw q.1 (record { fits = (begin_fitting k).0; stands = λ e. let z : stands p ≡ false = (begin_fitting k).1 in absurd (cc) })
    | inr q ↦ o.at i d q
  ];
}
keeps_calls {w = w} (takes i c p a s list t o g e row nu) l ok = record {
  at = λ j d k. elim (get-set w.calls i j c (left c s list) d g k) [
    | inl q ↦ rw q.1 (moved_ok w c e row (ok.at i c g))
    | inr q ↦ other_ok w l _ i c g (elim (gens_stay w c row) [ inl x ↦ inl x | inr x ↦ inr (e ∙ x) ]) j d q.1 (ok.at j d q.1)
  ];
}

pub calls_empty : (first : ℕ) → CallsOk (empty first)
calls_empty first = record { at = λ i c h. absurd (cc) }
