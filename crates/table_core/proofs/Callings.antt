-- A call over a schedule: what it keeps, that it ends once, and what comes before what.
use Rattle.std.proofs.Common.{eqb-true, ℕ, ◌≡◌, ◌++◌, inl, inr, List, [], ◌∷◌, Bool, true, false, refl, Option, Some, None, sym, subst, ap, eqb, ◌∙◌}
use Rattle.std.specs.Prelude.{◌==◌, if◌then◌else◌, slice_set, option_to_list}
use Rattle.std.specs.List.{slice_get, find}
use Rattle.table_core.specs.Replies.{Reply, Finished}
use Rattle.table_core.specs.Generations.{Table}
use Rattle.table_terms.specs.Capacities.{IsFirstCapacity}
use Rattle.table_core.specs.Calls.{Call, starts, is_done}
use Rattle.table_core.specs.Machine.{World, empty, Act, Begins, Goes, acts, happens, finished_call, finished_by, finishes, run, after}
use Rattle.table_core.specs.History.{replies, fate, answers_so, has_later}
use Rattle.table_core.specs.Steps.{Row, shares, leaves_refused, small, ends, ends_failed, gives_up, looks_none, look_empty, look_meets, look_turns, look_turns_unasked, len_none, len_size, walk_none, walk_skips_last, walk_takes_last, left}
use Rattle.table_core.specs.declared.event.Event.{Event}
use Rattle.table_core.specs.declared.call.CallState.{CallState}
use Rattle.table_core.specs.declared.call.Phase.{Phase}
use Rattle.table_core.specs.declared.call.Answer.{Answer}
use Rattle.table_core.proofs.Lists.{get-set_same, get-set_other, get-push_before}
use Rattle.std.proofs.Common.{append_assoc}
use Rattle.std.proofs.lemmas.Bool.{eq-eqb, eqb-true}
use Rattle.std.specs.Option.{is_some}
use Rattle.table_core.proofs.Turns.{Turn, rests, opens, takes}
use Rattle.table_core.proofs.Pasts.{append-none, run_append, after_snoc, turn_after}
use Rattle.table_core.proofs.Standing.{fitting, CallsOk}
use Rattle.table_core.proofs.Facts.{Numbered}
use Rattle.table_core.proofs.Contents.{fit_at, same_number}
use Rattle.table_core.proofs.Invariant.{inv}
use Rattle.std.proofs.lemmas.Bool.{false_from_ne_true, and_parts}

-- A turn that a call takes

pub record Took (w : World) (x : Event) (c : Call) (a : Answer) (v : World) (r : Option Finished) : Type 0 where
  pub at : ℕ
  pub phase : Phase
  pub state : CallState
  pub list : List ℕ
  pub table : Table
  pub reply : Option Reply
  pub there : slice_get w.calls at ≡ Some c
  pub was : c.state.phase ≡ phase
  pub row : Row w c phase x a state list table reply
  pub after : v ≡ record { table = table; calls = slice_set w.calls at (left c state list) }
  pub finishes : r ≡ finished_call c.number reply

pub took : {w v : World} {x : Event} {m : Option Act} {r : Option Finished} (c : Call) (a : Answer) → Turn w x m v r → m ≡ Some (Goes c a) → Took w x c a v r
took c a rests e = absurd (cc)
took c a (opens _ _ _ _ _ _ _ _) e = absurd (cc)
took {w = w} {x = x} c a (takes i d p b s list t o g ph row nu) e =
    let ec : d ≡ c = cc in
    let ea : b ≡ a = cc in
    let k : Took w x d b (record { table = t; calls = slice_set w.calls i (left d s list) }) (finished_call d.number o) = record { at = i; phase = p; state = s; list = list; table = t; reply = o; there = g; was = ph; row = row; after = refl; finishes = refl } in
    subst (λ z. Took w x c z (record { table = t; calls = slice_set w.calls i (left d s list) }) (finished_call d.number o)) ea
    (subst (λ z. Took w x z b (record { table = t; calls = slice_set w.calls i (left d s list) }) (finished_call d.number o)) ec k)

pub took_after : (f : ℕ) (s : List Event) (x : Event) (c : Call) (a : Answer) → acts (after f s) x ≡ Some (Goes c a) → Took (after f s) x c a (after f (s ++ x ∷ [])) (finishes (after f s) x)
took_after f s x c a h = took c a (turn_after f s x) h

-- What a call keeps

-- a call of this number is there, of which this holds
pub record Has (P : Call → Type 0) (w : World) (n : ℕ) : Type 0 where
  pub at : ℕ
  pub call : Call
  pub there : slice_get w.calls at ≡ Some call
  pub number : call.number ≡ n
  pub holds : P call

-- a fact on calls that each row keeps
abbrev pub Kept : (Call → Type 0) → Type 0
Kept P = (w : World) (c : Call) (p : Phase) (x : Event) (a : Answer) (r : CallState) (ls : List ℕ) (t : Table) (q : Option Reply) → Row w c p x a r ls t q → c.state.phase ≡ p → fitting (is_some c.value) p c.state.outcome ≡ true → P c → P (left c r ls)

pub has_turn : (P : Call → Type 0) → Kept P → {w v : World} {x : Event} {m : Option Act} {r : Option Finished} (n : ℕ) → Turn w x m v r → CallsOk w → Has P w n → Has P v n
has_turn P k n rests o h = h
has_turn P k {w = w} n (opens u v p y ra b q z) o h = record { at = h.at; call = h.call; there = get-push_before w.calls (starts u v p y ∷ []) h.at h.call h.there; number = h.number; holds = h.holds }
has_turn P k {w = w} {x = x} n (takes i c p a s list t q g e row nu) o h = elim (same_number i h.at) [
  | inl m ↦ (
      let y : slice_get w.calls i ≡ Some h.call = rw m h.there in
      let d : h.call ≡ c = cc in
      record { at = i; call = left c s list; there = get-set_same w.calls i c (left c s list) g; number = (let z : c.number ≡ n = ap (λ (z : Call). z.number) (sym d) ∙ h.number in z); holds = k w c p x a s list t q row e (fit_at c _ p (o.at i c g) e) (subst P d h.holds) })
  | inr m ↦ record { at = h.at; call = h.call; there = get-set_other w.calls i h.at (left c s list) m ∙ h.there; number = h.number; holds = h.holds }
]

pub has_snoc : (P : Call → Type 0) → Kept P → (f : ℕ) → IsFirstCapacity f → (s : List Event) (x : Event) (n : ℕ) → Has P (after f s) n → Has P (after f (s ++ x ∷ [])) n
has_snoc P k f h s x n q = has_turn P k n (turn_after f s x) (inv f h s).calls q

pub has_after : (P : Call → Type 0) → Kept P → (f : ℕ) → IsFirstCapacity f → (s es : List Event) (n : ℕ) → Has P (after f s) n → Has P (after f (s ++ es)) n
has_after P k f h s [] n q = rw append-none q
has_after P k f h s (x ∷ es) n q = subst (λ z. Has P (after f z) n) (append_assoc s (x ∷ []) es) (has_after P k f h (s ++ x ∷ []) es n (has_snoc P k f h s x n q))

-- two calls of one number are one
pub has_same : (P : Call → Type 0) (w : World) (n i : ℕ) (c : Call) → Numbered w → (h : Has P w n) → slice_get w.calls i ≡ Some c → c.number ≡ n → P c
has_same P w n i c u h g e =
    let m : h.at ≡ i = u.apart h.at i h.call c h.there g (h.number ∙ sym e) in
    let y : slice_get w.calls i ≡ Some h.call = rw m at h.there in
    let d : h.call ≡ c = cc in
    subst P d h.holds

-- The end of a call

abbrev pub IsDone : Call → Type 0
IsDone c = is_done c.state.phase ≡ true

pub row_not_done : (w : World) (c : Call) {p : Phase} {x : Event} {a : Answer} {r : CallState} {ls : List ℕ} {t : Table} {q : Option Reply} → Row w c p x a r ls t q → is_done p ≡ false
row_not_done w c (shares _ _) = refl
row_not_done w c _ = refl

pub done_kept : Kept IsDone
done_kept w c p x a r ls t q row e f d = absurd (let z : is_done c.state.phase ≡ false = ap is_done e ∙ row_not_done w c row in cc)

-- a row with a reply ends the call
pub row_told : (w : World) (c : Call) {p : Phase} {x : Event} {a : Answer} {r : CallState} {ls : List ℕ} {t : Table} {q : Option Reply} → Row w c p x a r ls t q → (b : Reply) → q ≡ Some b → is_done r.phase ≡ true
row_told w c (leaves_refused _) b h = refl
row_told w c (small _ _ _ _) b h = refl
row_told w c (ends _ _) b h = refl
row_told w c (ends_failed _ _) b h = refl
row_told w c (gives_up _ _ _) b h = refl
row_told w c (looks_none _ _) b h = refl
row_told w c (look_empty _ _ _) b h = refl
row_told w c (look_meets _ _ _ _ _) b h = refl
row_told w c (look_turns _ _ _ _ _ _) b h = refl
row_told w c (look_turns_unasked _ _ _ _ _ _) b h = refl
row_told w c (len_none _ _) b h = refl
row_told w c (len_size _ _ _) b h = refl
row_told w c (walk_none _ _) b h = refl
row_told w c (walk_skips_last _ _ _ _) b h = refl
row_told w c (walk_takes_last _ _ _ _ _) b h = refl
row_told w c _ b h = absurd (cc)

-- a finished call takes no event
pub done_silent : (f : ℕ) → IsFirstCapacity f → (s : List Event) (n : ℕ) (x : Event) (c : Call) (a : Answer) → Has IsDone (after f s) n → acts (after f s) x ≡ Some (Goes c a) → c.number ≡ n → ⊥
done_silent f h s n x c a d e q =
    let t = took_after f s x c a e in
    let y : is_done c.state.phase ≡ true = has_same IsDone (after f s) n t.at c (inv f h s).numbered d t.there q in
    let z : is_done c.state.phase ≡ false = ap is_done t.was ∙ row_not_done (after f s) c t.row in
    cc

pub reply_act_by : (w : World) (o : Option Act) (r : Finished) → finished_by w o ≡ Some r → (c : Call) × (a : Answer) × (o ≡ Some (Goes c a))
reply_act_by w None r h = absurd (cc)
reply_act_by w (Some (Begins c)) r h = absurd (cc)
reply_act_by w (Some (Goes c a)) r h = (c, a, refl)

pub told_at : (n : ℕ) (o : Option Reply) (r : Finished) → finished_call n o ≡ Some r → (b : Reply) × (o ≡ Some b) × (r.call ≡ n)
told_at n None r h = absurd (cc)
told_at n (Some b) r h = (b, refl, (let e : record { call = n; reply = b } ≡ r = cc in ap (λ (z : Finished). z.call) (sym e)))

-- the event that gives a reply is one of that call
pub record Replied (f : ℕ) (s : List Event) (x : Event) (r : Finished) : Type 0 where
  pub call : Call
  pub found : Answer
  pub taken : acts (after f s) x ≡ Some (Goes call found)
  pub number : call.number ≡ r.call

pub replied : (f : ℕ) (s : List Event) (x : Event) (r : Finished) → finishes (after f s) x ≡ Some r → Replied f s x r
replied f s x r h =
    let g = reply_act_by (after f s) (acts (after f s) x) r h in
    let t = took_after f s x g.0 g.1 g.2 in
    let m = told_at g.0.number t.reply r (sym t.finishes ∙ h) in
    record { call = g.0; found = g.1; taken = g.2; number = sym m.2 }

-- a reply ends its call
pub reply_ends : (f : ℕ) (s : List Event) (x : Event) (r : Finished) → finishes (after f s) x ≡ Some r → Has IsDone (after f (s ++ x ∷ [])) r.call
reply_ends f s x r h =
    let g = reply_act_by (after f s) (acts (after f s) x) r h in
    let t = took_after f s x g.0 g.1 g.2 in
    let m = told_at g.0.number t.reply r (sym t.finishes ∙ h) in
    rw t.after (record { at = t.at; call = left g.0 t.state t.list; there = get-set_same (after f s).calls t.at g.0 (left g.0 t.state t.list) t.there; number = sym m.2; holds = row_told (after f s) g.0 t.row m.0 m.1 })

-- What a schedule tells a call

pub find_option : (n : ℕ) (o : Option Finished) (rs : List Finished) → ((q : Finished) → o ≡ Some q → q.call ≡ n → ⊥) → find (λ (r : Finished). r.call == n) (option_to_list o ++ rs) ≡ find (λ r. r.call == n) rs
find_option n None rs f = refl
find_option n (Some q) rs f = rw (false_from_ne_true (eqb q.call n) (λ e. f q refl (eqb-true q.call n e))) refl

pub find_append_none_at : (n : ℕ) (x : Finished) (xs ys : List Finished) (b : Bool) → (x.call == n) ≡ b → (if b then Some x else find (λ (r : Finished). r.call == n) xs) ≡ None → (find (λ (r : Finished). r.call == n) xs ≡ None → find (λ (r : Finished). r.call == n) (xs ++ ys) ≡ find (λ r. r.call == n) ys) → (if b then Some x else find (λ (r : Finished). r.call == n) (xs ++ ys)) ≡ find (λ r. r.call == n) ys
find_append_none_at n x xs ys true e h k = absurd (cc)
find_append_none_at n x xs ys false e h k = k h

pub find_append_none : (n : ℕ) (xs ys : List Finished) → find (λ (r : Finished). r.call == n) xs ≡ None → find (λ (r : Finished). r.call == n) (xs ++ ys) ≡ find (λ r. r.call == n) ys
find_append_none n [] ys h = refl
find_append_none n (x ∷ xs) ys h = find_append_none_at n x xs ys (x.call == n) refl h (find_append_none n xs ys)

-- a schedule that tells call n something
pub record Telling (w : World) (es : List Event) (n : ℕ) (r : Finished) : Type 0 where
  pub before : List Event
  pub event : Event
  pub rest : List Event
  pub split : es ≡ before ++ event ∷ rest
  pub reply : finishes (run w before) event ≡ Some r
  pub number : r.call ≡ n
  pub first : fate w before n ≡ None

pub telling_later : (w : World) (x : Event) (es : List Event) (n : ℕ) (r : Finished) → ((q : Finished) → finishes w x ≡ Some q → q.call ≡ n → ⊥) → Telling (happens w x) es n r → Telling w (x ∷ es) n r
telling_later w x es n r f t = record { before = x ∷ t.before; event = t.event; rest = t.rest; split = ap (λ l. x ∷ l) t.split; reply = t.reply; number = t.number; first = find_option n (finishes w x) (replies (happens w x) t.before) f ∙ t.first }

pub telling_if : (w : World) (x : Event) (es : List Event) (n : ℕ) (r q : Finished) (b : Bool) → (q.call == n) ≡ b → finishes w x ≡ Some q → (if b then Some q else fate (happens w x) es n) ≡ Some r → (fate (happens w x) es n ≡ Some r → Telling (happens w x) es n r) → Telling w (x ∷ es) n r
telling_if w x es n r q true u e h k =
    let m : q ≡ r = cc in
    record { before = []; event = x; rest = es; split = refl; reply = e ∙ ap Some m; number = ap (λ (z : Finished). z.call) (sym m) ∙ eqb-true q.call n u; first = refl }
telling_if w x es n r q false u e h k = telling_later w x es n r (λ p z y. (let m : Some q ≡ Some p = sym e ∙ z in let o : q ≡ p = cc in let v : (q.call == n) ≡ true = eq-eqb q.call n (ap (λ (z : Finished). z.call) o ∙ y) in cc)) (k h)

pub telling_at : (w : World) (x : Event) (es : List Event) (n : ℕ) (r : Finished) (o : Option Finished) → finishes w x ≡ o → find (λ (r : Finished). r.call == n) (option_to_list o ++ replies (happens w x) es) ≡ Some r → (fate (happens w x) es n ≡ Some r → Telling (happens w x) es n r) → Telling w (x ∷ es) n r
telling_at w x es n r None e h k = telling_later w x es n r (λ q z y. absurd (let m : None ≡ Some q = sym e ∙ z in cc)) (k h)
telling_at w x es n r (Some q) e h k = telling_if w x es n r q (q.call == n) refl e h k

pub telling : (es : List Event) (w : World) (n : ℕ) (r : Finished) → fate w es n ≡ Some r → Telling w es n r
telling [] w n r h = absurd (cc)
telling (x ∷ es) w n r h = telling_at w x es n r (finishes w x) refl h (telling es (happens w x) n r)

pub run_after : (f : ℕ) (s es : List Event) → run (after f s) es ≡ after f (s ++ es)
run_after f s es = sym (run_append s es (empty f))

-- a finished call has no later answer
pub not_answered : (f : ℕ) → IsFirstCapacity f → (s : List Event) (x : Event) (k : Phase → Answer → Bool) (n : ℕ) (o : Option Act) → acts (after f s) x ≡ o → Has IsDone (after f s) n → answers_so k o n ≡ false
not_answered f h s x k n None e d = refl
not_answered f h s x k n (Some (Begins c)) e d = refl
not_answered f h s x k n (Some (Goes c a)) e d = false_from_ne_true _ (λ q. done_silent f h s n x c a d e (eqb-true c.number n (and_parts (k c.state.phase a) (c.number == n) q).1))

pub done_later : (f : ℕ) → IsFirstCapacity f → (es s : List Event) (k : Phase → Answer → Bool) (n : ℕ) → Has IsDone (after f s) n → has_later k (after f s) es n ≡ false
done_later f h [] s k n d = refl
done_later f h (x ∷ es) s k n d =
    let a : answers_so k (acts (after f s) x) n ≡ false = not_answered f h s x k n (acts (after f s) x) refl d in
    let z : has_later k (after f (s ++ x ∷ [])) es n ≡ false = done_later f h es (s ++ x ∷ []) k n (has_snoc IsDone done_kept f h s x n d) in
    let y : has_later k (happens (after f s) x) es n ≡ false = rw (← after_snoc f s x) z in
    rw (a, y) refl

-- a call that acts has been told nothing
pub acts_untold_at : (f : ℕ) → IsFirstCapacity f → (s es : List Event) (n : ℕ) (x : Event) (c : Call) (a : Answer) → acts (after f (s ++ es)) x ≡ Some (Goes c a) → c.number ≡ n → (o : Option Finished) → fate (after f s) es n ≡ o → o ≡ None
acts_untold_at f h s es n x c a e q None k = refl
acts_untold_at f h s es n x c a e q (Some r) k =
    let t = telling es (after f s) n r k in
    let d : Has IsDone (after f ((s ++ t.before) ++ t.event ∷ [])) r.call = reply_ends f (s ++ t.before) t.event r (rw (run_after f s t.before) at t.reply) in
    let y : Has IsDone (after f (((s ++ t.before) ++ t.event ∷ []) ++ t.rest)) r.call = has_after IsDone done_kept f h ((s ++ t.before) ++ t.event ∷ []) t.rest r.call d in
    let z : ((s ++ t.before) ++ t.event ∷ []) ++ t.rest ≡ s ++ es = append_assoc (s ++ t.before) (t.event ∷ []) t.rest ∙ (append_assoc s t.before (t.event ∷ t.rest) ∙ ap (λ l. s ++ l) (sym t.split)) in
    absurd (done_silent f h (s ++ es) n x c a (subst (λ n. Has IsDone (after f (s ++ es)) n) t.number (subst (λ z. Has IsDone (after f z) r.call) z y)) e q)

pub acts_untold : (f : ℕ) → IsFirstCapacity f → (s es : List Event) (n : ℕ) (x : Event) (c : Call) (a : Answer) → acts (after f (s ++ es)) x ≡ Some (Goes c a) → c.number ≡ n → fate (after f s) es n ≡ None
acts_untold f h s es n x c a e q = acts_untold_at f h s es n x c a e q (fate (after f s) es n) refl
