-- One event, as the code takes it.
use Rattle.std.proofs.Common.{ℕ, suc, ◌≡◌, List, [], ◌∷◌, Bool, true, false, refl, Option, Some, None, sym, subst, ap, ◌∙◌}
use Rattle.std.specs.Prelude.{◌==◌, if◌then◌else◌, slice_set}
use Rattle.std.specs.List.{slice_get}
use Rattle.std.specs.Option.{option_map}
use Rattle.std.proofs.lemmas.Bool.{eqb-true}
use Rattle.table_core.specs.Calls.{Call, call_numbered, replaced}
use Rattle.table_core.specs.Machine.{World, finds, call_acts, goes_by, act_of, acts, after_act, happens, finishes, finished_by, finished_call, number_of, in_range, call_after, act_takes_memory, finding_takes_memory, AsksMemory}
use Rattle.table_core.specs.Bound.{position_of}
use Rattle.table_core.specs.Openings.{opening}
use Rattle.table_core.specs.Reached.{moved, reply_to}
use Rattle.table_core.specs.declared.event.Event.{Event}
use Rattle.table_core.specs.declared.event.Event.TheVariants.{Insert, Lookup, Len, Walk}
use Rattle.table_core.specs.declared.call.Answer.{Answer}

-- the call of a number, at its position
pub record At (n : ℕ) (cs : List Call) (i : ℕ) : Type 0 where
  pub call : Call
  pub there : slice_get cs i ≡ Some call
  pub numbered : call_numbered n cs ≡ Some call
  pub number : call.number ≡ n
  pub set : (d : Call) → d.number ≡ n → replaced d cs ≡ slice_set cs i d

at_head : (n : ℕ) (c : Call) (cs : List Call) (i : ℕ) → (c.number == n) ≡ true → i ≡ 0 → At n (c ∷ cs) i
at_head n c cs i e z = record {
  call = c;
  there = rw z refl;
  numbered = rw e refl;
  number = eqb-true c.number n e;
  set = λ d q. let y : (c.number == d.number) ≡ true = subst (λ m. (c.number == m) ≡ true) (sym q) e in rw (z, y) refl;
}

at_tail : (n : ℕ) (c : Call) (cs : List Call) (i j : ℕ) → (c.number == n) ≡ false → i ≡ suc j → At n cs j → At n (c ∷ cs) i
at_tail n c cs i j e z a = record {
  call = a.call;
  there = rw z a.there;
  numbered = rw e a.numbered;
  number = a.number;
  set = λ d q. let y : (c.number == d.number) ≡ false = subst (λ m. (c.number == m) ≡ false) (sym q) e in rw (z, y) (ap (λ l. c ∷ l) (a.set d q));
}

at_if : (n : ℕ) (c : Call) (cs : List Call) (i : ℕ) (b : Bool) (o : Option ℕ) → (c.number == n) ≡ b → (if b then Some 0 else option_map (λ i. suc i) o) ≡ Some i → ((j : ℕ) → o ≡ Some j → At n cs j) → At n (c ∷ cs) i
at_if n c cs i true o e h f = at_head n c cs i e (let z : Some 0 ≡ Some i = h in cc)
at_if n c cs i false None e h f = absurd (cc)
at_if n c cs i false (Some j) e h f = at_tail n c cs i j e (let z : Some (suc j) ≡ Some i = h in cc) (f j refl)

pub at_position : (n : ℕ) (cs : List Call) (i : ℕ) → position_of n cs ≡ Some i → At n cs i
at_position n [] i h = absurd (cc)
at_position n (c ∷ cs) i h = at_if n c cs i (c.number == n) (position_of n cs) refl h (λ j e. at_position n cs j e)

none_if : (b : Bool) (o : Option ℕ) (c : Call) (p : Option Call) → (if b then Some 0 else option_map (λ i. suc i) o) ≡ None → (o ≡ None → p ≡ None) → (if b then Some c else p) ≡ None
none_if true o c p h f = absurd (cc)
none_if false None c p h f = f refl
none_if false (Some j) c p h f = absurd (cc)

pub no_position : (n : ℕ) (cs : List Call) → position_of n cs ≡ None → call_numbered n cs ≡ None
no_position n [] h = refl
no_position n (c ∷ cs) h = none_if (c.number == n) (position_of n cs) c _ h (no_position n cs)

-- an event that begins no call is taken by the call of its number
pub not_opened : (w : World) (x : Event) → opening x ≡ None → act_of w x ≡ call_acts w (call_numbered (number_of x) w.calls) x
not_opened w (Insert c v h) e = absurd (cc)
not_opened w (Lookup c h) e = absurd (cc)
not_opened w (Len c) e = absurd (cc)
not_opened w (Walk c) e = absurd (cc)
not_opened w _ e = refl

going : (w : World) (x : Event) (o : Option Call) → in_range x ≡ true → opening x ≡ None → call_numbered (number_of x) w.calls ≡ o → acts w x ≡ call_acts w o x
going w x o r e h = rw r (not_opened w x e ∙ ap (λ z. call_acts w z x) h)

moved_by : (w : World) (x : Event) (i : ℕ) (a : At (number_of x) w.calls i) (o : Option Answer) → after_act w x (goes_by a.call o) ≡ moved w i a.call x o
moved_by w x i a None = refl
moved_by w x i a (Some b) = rw (a.set (call_after w.table a.call b) a.number) refl

told_by : (w : World) (c : Call) (n : ℕ) (o : Option Answer) → c.number ≡ n → finished_by w (goes_by c o) ≡ finished_call n (reply_to w c o)
told_by w c n None e = refl
told_by w c n (Some b) e = rw e refl

pub happens_at : (w : World) (x : Event) (i : ℕ) (a : At (number_of x) w.calls i) → in_range x ≡ true → opening x ≡ None → moved w i a.call x (finds w a.call.state x) ≡ happens w x
happens_at w x i a r e = sym (ap (after_act w x) (going w x (Some a.call) r e a.numbered) ∙ moved_by w x i a (finds w a.call.state x))

pub reply_at : (w : World) (x : Event) (i : ℕ) (a : At (number_of x) w.calls i) → in_range x ≡ true → opening x ≡ None → finished_call (number_of x) (reply_to w a.call (finds w a.call.state x)) ≡ finishes w x
reply_at w x i a r e = sym (ap (finished_by w) (going w x (Some a.call) r e a.numbered) ∙ told_by w a.call (number_of x) (finds w a.call.state x) a.number)

asked_by : (c : Call) (o : Option Answer) → act_takes_memory (goes_by c o) ≡ finding_takes_memory c.state.phase o
asked_by c None = refl
asked_by c (Some b) = refl

-- an event at which its call finds what takes memory asks for memory
pub asks_at : (w : World) (x : Event) (i : ℕ) (a : At (number_of x) w.calls i) → in_range x ≡ true → opening x ≡ None → finding_takes_memory a.call.state.phase (finds w a.call.state x) ≡ true → AsksMemory w x
asks_at w x i a r e h = ap act_takes_memory (going w x (Some a.call) r e a.numbered) ∙ asked_by a.call (finds w a.call.state x) ∙ h

pub happens_none : (w : World) (x : Event) → in_range x ≡ true → opening x ≡ None → position_of (number_of x) w.calls ≡ None → w ≡ happens w x
happens_none w x r e h = sym (ap (after_act w x) (going w x None r e (no_position (number_of x) w.calls h)))

pub reply_none : (w : World) (x : Event) → in_range x ≡ true → opening x ≡ None → position_of (number_of x) w.calls ≡ None → None ≡ finishes w x
reply_none w x r e h = sym (ap (finished_by w) (going w x None r e (no_position (number_of x) w.calls h)))

pub nothing_there : (o : Option ℕ) → ((i : ℕ) → o ≡ Some i → ⊥) → o ≡ None
nothing_there None f = refl
nothing_there (Some i) f = absurd (f i refl)
