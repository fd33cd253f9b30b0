-- Each generation holds only what was placed.
use Rattle.std.proofs.Common.{ℕ, suc, ◌≡◌, ◌-◌, ◌++◌, ◌⊎◌, inl, inr, List, [], refl, Option, Some, None, length, sym, ap, arith, ◌∙◌}
use Rattle.std.specs.Prelude.{slice_set}
use Rattle.std.specs.List.{slice_get}
use Rattle.table_core.proofs.Weights.{weigh}
use Rattle.table_core.specs.Replies.{Reply, Finished}
use Rattle.table_core.specs.Generations.{Gen, Build, Table, fill, count, last_of, current, change_at, change, entries_of, built}
use Rattle.table_core.specs.Calls.{Call}
use Rattle.table_core.specs.Machine.{World, empty, place, Act, Goes}
use Rattle.table_core.specs.History.{placed_by}
use Rattle.table_core.specs.Steps.{Row, puts, adds, shows}
use Rattle.table_core.specs.declared.event.Event.{Event}
use Rattle.table_core.specs.declared.call.CallState.{CallState}
use Rattle.table_core.specs.declared.call.Phase.{Phase}
use Rattle.table_core.specs.declared.call.Phase.TheVariants.{AtEmpty, Placed}
use Rattle.table_core.specs.declared.call.Answer.{Answer}
use Rattle.table_core.proofs.Lists.{weigh-append, get-set, get-set_same, get-push}
use Rattle.std.proofs.lemmas.List.{length-set}
use Rattle.table_core.proofs.Locks.{Locked}
use Rattle.table_core.proofs.Turns.{Turn, rests, opens, takes}
use Rattle.table_core.proofs.Pasts.{append-none}
use Rattle.table_core.proofs.Standing.{IsLast, CallOk, CallsOk}
use Rattle.table_core.proofs.Facts.{values, Holding, Within}
use Rattle.table_core.proofs.Contents.{last_push, stand_at, hold_row, entry_of}

pub set_within : (gens : List Gen) (k : ℕ) (f : Gen → Gen) (o : Option Gen) → slice_get gens k ≡ o → suc k ≡ length gens → (j : ℕ) (d : Gen) → slice_get (change_at gens k o f) j ≡ Some d → (slice_get gens j ≡ Some d) ⊎ (last_of (change_at gens k o f) ≡ Some d)
set_within gens k f None h e j d x = inl x
set_within gens k f (Some g) h e j d x = elim (get-set gens k j g (f g) d h x) [
  | inl p ↦ inr (let n : length (slice_set gens k (f g)) - 1 ≡ k = omega (arith, length-set gens k (f g)) in rw n (get-set_same gens k g (f g) h ∙ sym (ap Some p.1)))
  | inr p ↦ inl p.1
]

pub change_within : (gens : List Gen) (w : Option ℕ) (f : Gen → Gen) → IsLast (length gens) w → (j : ℕ) (d : Gen) → slice_get (change gens w f) j ≡ Some d → (slice_get gens j ≡ Some d) ⊎ (last_of (change gens w f) ≡ Some d)
change_within gens None f l j d x = inl x
change_within gens (Some k) f l j d x = let e : k ≡ l.0 = (let y : Some k ≡ Some l.0 = l.1 in cc) in set_within gens k f (slice_get gens k) refl (ap suc e ∙ l.2) j d x

pub push_within : (gens : List Gen) (b : Option Build) (j : ℕ) (d : Gen) → slice_get (gens ++ built b) j ≡ Some d → (slice_get gens j ≡ Some d) ⊎ (last_of (gens ++ built b) ≡ Some d)
push_within gens None j d x = inl (rw append-none at x)
push_within gens (Some b) j d x = elim (get-push gens b.gen d j x) [ inl p ↦ inr (last_push gens b.gen ∙ sym (ap Some p.1)) | inr p ↦ inl p ]

pub place_within : (t : Table) (s : CallState) (v : Option ℕ) → IsLast (length t.gens) s.walked → (j : ℕ) (d : Gen) → slice_get (place t s v).gens j ≡ Some d → (slice_get t.gens j ≡ Some d) ⊎ (current (place t s v) ≡ Some d)
place_within t s None l j d x = inl x
place_within t s (Some v) l j d x = change_within t.gens s.walked (λ g. fill g (entry_of s v)) l j d x

-- a generation is as it was, or it is the current one
pub gen_after : (w : World) (c : Call) {p : Phase} {x : Event} {a : Answer} {r : CallState} {ls : List ℕ} {t : Table} {q : Option Reply} → Row w c p x a r ls t q → c.state.phase ≡ p → CallOk (length w.table.gens) c → (j : ℕ) (d : Gen) → slice_get t.gens j ≡ Some d → (slice_get w.table.gens j ≡ Some d) ⊎ (current t ≡ Some d)
gen_after w c (puts _ _ _) e k j d x = place_within w.table c.state c.value (stand_at c _ AtEmpty k e refl) j d x
gen_after w c (adds _) e k j d x = change_within w.table.gens c.state.walked count (stand_at c _ Placed k e refl) j d x
gen_after w c (shows _ _) e k j d x = push_within w.table.gens w.table.building j d x
gen_after w c _ e k j d x = inl x

pub keeps_within : {w v : World} {x : Event} {a : Option Act} {r : Option Finished} (m : List ℕ) → Turn w x a v r → Locked w → CallsOk w → Holding w.table m → Within w m → Within v (m ++ placed_by a)
keeps_within m rests l k h o = record { each = λ j g y f. omega (arith, o.each j g y f, weigh-append f m []) }
keeps_within m (opens _ _ _ _ _ _ _ _) l k h o = record { each = λ j g y f. omega (arith, o.each j g y f, weigh-append f m []) }
keeps_within {w = w} m (takes i c p a s list t o g e row nu) l k h q = record {
  each = λ j d y f. elim (gen_after w c row e (k.at i c g) j d y) [
    | inl z ↦ omega (arith, q.each j d z f, weigh-append f m (placed_by (Some (Goes c a))))
    | inr z ↦ (let b : values f (entries_of (current t)) ≡ weigh f (m ++ placed_by (Some (Goes c a))) = (hold_row w i c m row e g l (k.at i c g) h).bag f in let q : values f d.entries ≡ weigh f (m ++ placed_by (Some (Goes c a))) = rw z at b in omega arith)
  ];
}

pub within_empty : (first : ℕ) → Within (empty first) []
within_empty first = record { each = λ k g h f. absurd (cc) }
