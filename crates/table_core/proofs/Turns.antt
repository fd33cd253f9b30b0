-- Each event as a turn of the call at a place among the calls.
use Rattle.std.proofs.Common.{eqb-true, ℕ, suc, ◌≡◌, ◌++◌, List, [], ◌∷◌, Bool, true, false, refl, Option, Some, None, sym, subst, ap}
use Rattle.std.specs.Prelude.{◌==◌, if◌then◌else◌, slice_set}
use Rattle.std.specs.List.{slice_get}
use Rattle.table_core.specs.Replies.{Reply, Finished}
use Rattle.table_core.specs.Generations.{Table}
use Rattle.table_core.specs.Calls.{Call, starts, is_used, call_numbered, replaced}
use Rattle.table_core.specs.Machine.{World, number_of, in_range, Act, Begins, Goes, acts, happens, finished_call, finishes}
use Rattle.table_core.specs.Steps.{Row, Opens, IsNewValue, left, Step, moves, stays, begins, goes}
use Rattle.table_core.specs.declared.event.Event.{Event}
use Rattle.table_core.specs.declared.call.CallState.{CallState}
use Rattle.table_core.specs.declared.call.Phase.{Phase}
use Rattle.table_core.specs.declared.call.Answer.{Answer}
use Rattle.table_core.proofs.Exact.{step}

pub data Turn (w : World) (x : Event) : Option Act → World → Option Finished → Type 0 where
  rests : Turn w x None w None
  opens : (n : ℕ) (v : Option ℕ) (p : Phase) (h : ℕ) → in_range x ≡ true → Opens x n v p h → is_used n w.calls ≡ false → IsNewValue w.calls v →
      Turn w x (Some (Begins (starts n v p h))) (record w { calls = w.calls ++ starts n v p h ∷ [] }) None
  takes : (i : ℕ) (c : Call) (p : Phase) (a : Answer) (s : CallState) (list : List ℕ) (t : Table) (o : Option Reply) →
      slice_get w.calls i ≡ Some c → c.state.phase ≡ p → Row w c p x a s list t o → c.number ≡ number_of x →
      Turn w x (Some (Goes c a)) (record { table = t; calls = slice_set w.calls i (left c s list) }) (finished_call c.number o)

-- where the call of a number stands
pub record Slot (n : ℕ) (cs : List Call) (c : Call) : Type 0 where
  pub at : ℕ
  pub there : slice_get cs at ≡ Some c
  pub number : c.number ≡ n
  pub set : (d : Call) → d.number ≡ n → replaced d cs ≡ slice_set cs at d

pub slot_here : (n : ℕ) (x : Call) (cs : List Call) (c : Call) → (x.number == n) ≡ true → x ≡ c → Slot n (x ∷ cs) c
slot_here n x cs c e q = record {
  at = 0;
  there = ap Some q;
  number = (let y : x.number ≡ n = eqb-true x.number n e in rw (← q) y);
  set = λ d k. let z : (x.number == d.number) ≡ true = subst (λ m. (x.number == m) ≡ true) (sym k) e in rw z refl;
}

pub slot_further : (n : ℕ) (x : Call) (cs : List Call) (c : Call) → (x.number == n) ≡ false → Slot n cs c → Slot n (x ∷ cs) c
slot_further n x cs c e q = record {
  at = suc q.at;
  there = q.there;
  number = q.number;
  set = λ d k. let z : (x.number == d.number) ≡ false = subst (λ m. (x.number == m) ≡ false) (sym k) e in rw z (ap (λ l. x ∷ l) (q.set d k));
}

pub slot_if : (n : ℕ) (x : Call) (cs : List Call) (c : Call) (b : Bool) → (x.number == n) ≡ b → (if b then Some x else call_numbered n cs) ≡ Some c → (call_numbered n cs ≡ Some c → Slot n cs c) → Slot n (x ∷ cs) c
slot_if n x cs c true e h f = slot_here n x cs c e (let q : x ≡ c = cc in q)
slot_if n x cs c false e h f = slot_further n x cs c e (f h)

pub slot : (n : ℕ) (cs : List Call) (c : Call) → call_numbered n cs ≡ Some c → Slot n cs c
slot n [] c h = absurd (cc)
slot n (x ∷ cs) c h = slot_if n x cs c (x.number == n) refl h (slot n cs c)

pub turn_of : {w v : World} {x : Event} {m : Option Act} {r : Option Finished} → Step w x m v r → Turn w x m v r
turn_of (stays _) = rests
turn_of (moves _ _ _ (begins n v p h r o u f)) = opens n v p h r o u f
turn_of {w = w} {x = x} (moves _ _ _ (goes c p a s list t o r h e row)) =
    let q = slot (number_of x) w.calls c h in
    rw (q.set (left c s list) q.number) (takes q.at c p a s list t o q.there e row q.number)

-- each event is a turn
pub turn : (w : World) (x : Event) → Turn w x (acts w x) (happens w x) (finishes w x)
turn w x = turn_of (step w x)
