-- The history of a schedule: a run of the list object, each call once and in its order.
use Rattle.std.proofs.Common.{eqb-true, ℕ, ◌≡◌, ◌++◌, ◌⊎◌, inl, inr, List, [], ◌∷◌, Bool, true, false, refl, Option, Some, None, sym, subst, ap, ◌∙◌}
use Rattle.std.specs.Prelude.{◌==◌, ◌&&◌, if◌then◌else◌, option_to_list, not, map}
use Rattle.std.specs.List.{find}
use Rattle.table_core.specs.Replies.{Reply, ReplyPlaced, Finished}
use Rattle.table_core.specs.Generations.{Table}
use Rattle.table_terms.specs.Capacities.{IsFirstCapacity}
use Rattle.table_core.specs.Calls.{Call, to}
use Rattle.table_core.specs.Machine.{World, empty, Act, Begins, Goes, acts, happens, finished_call, finishes, run, after}
use Rattle.table_core.specs.History.{replies, fate, placed_by, placed_at, placed, has_later}
use Rattle.table_core.specs.Steps.{Row, shares, puts, left}
use Rattle.table_core.specs.declared.event.Event.{Event}
use Rattle.table_core.specs.declared.call.CallState.{CallState}
use Rattle.table_core.specs.declared.call.Phase.{Phase}
use Rattle.table_core.specs.declared.call.Phase.TheVariants.{AtEmpty}
use Rattle.table_core.specs.declared.call.Answer.{Answer}
use Rattle.table_core.specs.declared.call.Answer.TheVariants.{Won}
use Rattle.table_core.proofs.Lists.{get-set_same}
use Rattle.std.proofs.Common.{append_assoc}
use Rattle.std.proofs.lemmas.Bool.{eqb-true}
use Rattle.table_core.specs.ListObject.{Answers, IsListRun}
use Rattle.table_core.specs.Law.{Law, IsLawful}
use Rattle.table_core.specs.Lists.{asked, placed_here, stands_here, history_at, history, is_moment, may_be_refused, is_refusal}
use Rattle.table_core.proofs.Pasts.{append-none, after_snoc, placed_snoc}
use Rattle.table_core.proofs.Facts.{in_table}
use Rattle.table_core.proofs.Contents.{fit_at}
use Rattle.table_core.proofs.Invariant.{inv}
use Rattle.table_core.proofs.Members.{Is, is_either}
use Rattle.table_core.proofs.Lawful.{lawful_before}
use Rattle.table_core.proofs.Right.{say}
use Rattle.table_core.proofs.Callings.{took_after, Has, has_after, has_same, run_after, replied, Telling, telling, told_at}
use Rattle.table_core.proofs.Settled.{settled_stays, settled_now, settled, IsSettled}
use Rattle.table_core.proofs.Histories.{heads, won_row, placed_or_none, StandsHere, nothing, one, put_answer, not_both, answer_here, placed_told}
use Rattle.std.proofs.lemmas.Bool.{and_parts}

-- What stands in the history for one event

pub won_silent : (w : World) (c : Call) {p : Phase} {x : Event} {a : Answer} {r : CallState} {ls : List ℕ} {t : Table} {q : Option Reply} → Row w c p x a r ls t q → a ≡ Won → q ≡ None
won_silent w c (puts _ _ _) h = refl
won_silent w c (shares _ _) h = absurd (cc)
won_silent w c _ h = absurd (cc)

abbrev any_placed : Reply
any_placed = ReplyPlaced 0

pub reply_told : (n : ℕ) (o : Option Reply) (r : Finished) (b : Reply) → finished_call n o ≡ Some r → o ≡ Some b → r.reply ≡ b
reply_told n None r b h e = absurd (cc)
reply_told n (Some t) r b h e = let z : record { call = n; reply = t } ≡ r = cc in let y : t ≡ b = cc in ap (λ (z : Finished). z.reply) (sym z) ∙ y

pub told_later : (f : ℕ) → IsFirstCapacity f → (s : List Event) (x : Event) (b : List Event) (y : Event) (n : ℕ) (c : Call) (a : Answer) (r : Finished) → acts (after f s) x ≡ Some (Goes c a) → c.number ≡ n → a ≡ Won → finishes (after f (s ++ x ∷ b)) y ≡ Some r → r.call ≡ n → (u : ℕ) × (r.reply ≡ ReplyPlaced u)
told_later f i s x b y n c a r h e w k m =
    let p = took_after f s x c a h in
    let g = won_row (after f s) c p.row w in
    let now : settled any_placed p.state.phase p.state.outcome ≡ true = settled_now any_placed (after f s) c p.row (rw (g.phase, w) refl) refl in
    let j : Has (IsSettled any_placed) (after f (s ++ x ∷ [])) n = rw p.after (record { at = p.at; call = left c p.state p.list; there = get-set_same (after f s).calls p.at c (left c p.state p.list) p.there; number = e; holds = now }) in
    let v : Has (IsSettled any_placed) (after f ((s ++ x ∷ []) ++ b)) n = has_after (IsSettled any_placed) (settled_stays any_placed) f i (s ++ x ∷ []) b n j in
    let w2 : Has (IsSettled any_placed) (after f (s ++ x ∷ b)) n = subst (λ z. Has (IsSettled any_placed) (after f z) n) (append_assoc s (x ∷ []) b) v in
    let d = replied f (s ++ x ∷ b) y r k in
    let t = took_after f (s ++ x ∷ b) y d.call d.found d.taken in
    let iv = inv f i (s ++ x ∷ b) in
    let z : in_table d.call.state.phase d.call.state.outcome ≡ true = has_same (IsSettled any_placed) (after f (s ++ x ∷ b)) n t.at d.call iv.numbered w2 t.there (d.number ∙ m) in
    let o = told_at d.call.number t.reply r (sym t.finishes ∙ k) in
    let q = placed_told (after f (s ++ x ∷ b)) d.call t.row (fit_at d.call _ t.phase (iv.calls.at t.at d.call t.there) t.was) (ap (λ z. in_table z d.call.state.outcome) (sym t.was) ∙ z) o.0 o.1 in
    (q.0, reply_told d.call.number t.reply r o.0 (sym t.finishes ∙ k) o.1 ∙ q.1)

pub told_placed_at : (f : ℕ) → IsFirstCapacity f → (s : List Event) (x : Event) (xs : List Event) (n : ℕ) (c : Call) (a : Answer) (r : Finished) → acts (after f s) x ≡ Some (Goes c a) → c.number ≡ n → a ≡ Won → (b : List Event) (y : Event) (d : List Event) → x ∷ xs ≡ b ++ y ∷ d → finishes (run (after f s) b) y ≡ Some r → r.call ≡ n → (u : ℕ) × (r.reply ≡ ReplyPlaced u)
told_placed_at f i s x xs n c a r h e w [] y d sp to nu =
    let k = heads x y xs d sp in
    let p = took_after f s x c a h in
    let z : finishes (after f s) x ≡ Some r = rw k.0 to in
    let q : finished_call c.number None ≡ Some r = rw (won_silent (after f s) c p.row w) at (sym p.finishes ∙ z) in
    absurd (cc)
told_placed_at f i s x xs n c a r h e w (z ∷ b) y d sp to nu =
    let k = heads x z xs (b ++ y ∷ d) sp in
    let g : finishes (after f (s ++ x ∷ b)) y ≡ Some r = rw k.0 (rw (run_after f s (z ∷ b)) at to) in
    told_later f i s x b y n c a r h e w g nu

-- a call that places its value is told so, if it is told anything
pub reply_placed : (f : ℕ) → IsFirstCapacity f → (s : List Event) (x : Event) (xs : List Event) (n : ℕ) (c : Call) (a : Answer) (r : Finished) → acts (after f s) x ≡ Some (Goes c a) → c.number ≡ n → a ≡ Won → Telling (after f s) (x ∷ xs) n r → (u : ℕ) × (r.reply ≡ ReplyPlaced u)
reply_placed f i s x xs n c a r h e w t = told_placed_at f i s x xs n c a r h e w t.before t.event t.rest t.split t.reply t.number

pub stands_none : (l : Law) (f : ℕ) → IsFirstCapacity f → (s : List Event) (x : Event) (c : Call) (a : Answer) → IsLawful l f s → acts (after f s) x ≡ Some (Goes c a) → (placed_by (Some (Goes c a)) ≡ []) ⊎ ((v : ℕ) × (a ≡ Won) × (c.value ≡ Some v) × (placed_by (Some (Goes c a)) ≡ v ∷ [])) → StandsHere l f s (placed_here c.number (placed_by (Some (Goes c a)))) (placed_by (Some (Goes c a)))
stands_none l f i s x c a u h (inl e) = rw e (nothing refl refl)
stands_none l f i s x c a u h (inr k) =
    let g = put_answer l f i s x c a k.0 u h k.1 k.2 in
    let z : Answers l.equal (placed (empty f) s) (asked l (say c.number (ReplyPlaced k.0))) (ReplyPlaced k.0) (placed (empty f) s ++ k.0 ∷ []) = subst (λ o. Answers l.equal (placed (empty f) s) (asked l (say c.number (ReplyPlaced k.0))) (ReplyPlaced k.0) (placed (empty f) s ++ option_to_list o)) k.2 g in
    rw k.3 (one (say c.number (ReplyPlaced k.0)) refl z)

pub placed_stands : (t : Reply) (p : Phase) (a : Answer) (later : Bool) (u : ℕ) → t ≡ ReplyPlaced u → p ≡ AtEmpty → a ≡ Won → (is_moment t p a && not (is_refusal t && later)) ≡ false → ⊥
placed_stands t p a later u e g w n = let z : true ≡ false = rw (e, g, w) at n in cc

pub not_placing : (f : ℕ) → IsFirstCapacity f → (s : List Event) (x : Event) (xs : List Event) (c : Call) (a : Answer) (r : Finished) (later : Bool) → acts (after f s) x ≡ Some (Goes c a) → fate (after f s) (x ∷ xs) c.number ≡ Some r → (is_moment r.reply c.state.phase a && not (is_refusal r.reply && later)) ≡ false → (placed_by (Some (Goes c a)) ≡ []) ⊎ ((v : ℕ) × (a ≡ Won) × (c.value ≡ Some v) × (placed_by (Some (Goes c a)) ≡ v ∷ [])) → placed_by (Some (Goes c a)) ≡ []
not_placing f i s x xs c a r later h e n (inl z) = z
not_placing f i s x xs c a r later h e n (inr k) =
    let p = took_after f s x c a h in
    let g = won_row (after f s) c p.row k.1 in
    let t = reply_placed f i s x xs c.number c a r h refl k.1 (telling (x ∷ xs) (after f s) c.number r e) in
    let ph : c.state.phase ≡ AtEmpty = p.was ∙ g.phase in
    absurd (placed_stands r.reply c.state.phase a later t.0 t.1 ph k.1 n)

pub stands_some : (l : Law) (f : ℕ) → IsFirstCapacity f → (s : List Event) (x : Event) (xs : List Event) (c : Call) (a : Answer) (r : Finished) (later b : Bool) → IsLawful l f (s ++ x ∷ xs) → acts (after f s) x ≡ Some (Goes c a) → fate (after f s) (x ∷ xs) c.number ≡ Some r → has_later may_be_refused (happens (after f s) x) xs c.number ≡ later → (is_moment r.reply c.state.phase a && not (is_refusal r.reply && later)) ≡ b → StandsHere l f s (if b then r ∷ [] else []) (placed_by (Some (Goes c a)))
stands_some l f i s x xs c a r later true u h e w k =
    let z = and_parts _ _ k in
    one r refl (answer_here l f i s x xs c a r u h e z.0 (λ q. w ∙ not_both _ _ z.1 q))
stands_some l f i s x xs c a r later false u h e w k = nothing refl (not_placing f i s x xs c a r later h e k (placed_or_none c a))

pub stands_goes : (l : Law) (f : ℕ) → IsFirstCapacity f → (s : List Event) (x : Event) (xs : List Event) (c : Call) (a : Answer) (o : Option Finished) → IsLawful l f (s ++ x ∷ xs) → acts (after f s) x ≡ Some (Goes c a) → fate (after f s) (x ∷ xs) c.number ≡ o → StandsHere l f s (stands_here c a o (has_later may_be_refused (happens (after f s) x) xs c.number)) (placed_by (Some (Goes c a)))
stands_goes l f i s x xs c a None u h e = stands_none l f i s x c a (lawful_before l s (x ∷ xs) (empty f) u) h (placed_or_none c a)
stands_goes l f i s x xs c a (Some r) u h e = stands_some l f i s x xs c a r _ _ u h e refl refl

pub stands_act : (l : Law) (f : ℕ) → IsFirstCapacity f → (s : List Event) (x : Event) (xs : List Event) (o : Option Act) → IsLawful l f (s ++ x ∷ xs) → acts (after f s) x ≡ o → StandsHere l f s (history_at (after f s) x xs o) (placed_by o)
stands_act l f i s x xs None u h = nothing refl refl
stands_act l f i s x xs (Some (Begins c)) u h = nothing refl refl
stands_act l f i s x xs (Some (Goes c a)) u h = stands_goes l f i s x xs c a _ u h refl

-- The history is a run

abbrev RunsFrom : Law → ℕ → List Event → List Event → Type 0
RunsFrom l f s es = IsListRun l.equal (placed (empty f) s) (map (asked l) (history (after f s) es)) (map (λ r. r.reply) (history (after f s) es)) (placed (empty f) (s ++ es))

pub run_cons : (l : Law) (f : ℕ) (s : List Event) (x : Event) (xs : List Event) (h : List Finished) (v : List ℕ) → StandsHere l f s h v → placed (empty f) (s ++ x ∷ []) ≡ placed (empty f) s ++ v → (rest : List Finished) → IsListRun l.equal (placed (empty f) (s ++ x ∷ [])) (map (asked l) rest) (map (λ r. r.reply) rest) (placed (empty f) (s ++ x ∷ xs)) → IsListRun l.equal (placed (empty f) s) (map (asked l) (h ++ rest)) (map (λ r. r.reply) (h ++ rest)) (placed (empty f) (s ++ x ∷ xs))
run_cons l f s x xs h v (nothing e k) p rest n =
    let q : placed (empty f) (s ++ x ∷ []) ≡ placed (empty f) s = p ∙ (ap (λ z. placed (empty f) s ++ z) k ∙ append-none (placed (empty f) s)) in
    rw e (rw q at n)
run_cons l f s x xs h v (one r e k) p rest n = rw e (placed (empty f) (s ++ x ∷ []), rw p k, n)

pub runs_from : (l : Law) (f : ℕ) → IsFirstCapacity f → (es s : List Event) → IsLawful l f (s ++ es) → RunsFrom l f s es
runs_from l f i [] s u = rw append-none refl
runs_from l f i (x ∷ xs) s u =
    let assoc = append_assoc s (x ∷ []) xs in
    let n : RunsFrom l f (s ++ x ∷ []) xs = runs_from l f i xs (s ++ x ∷ []) (subst (λ z. IsLawful l f z) (sym assoc) u) in
    let n2 : IsListRun l.equal (placed (empty f) (s ++ x ∷ [])) (map (asked l) (history (after f (s ++ x ∷ [])) xs)) (map (λ r. r.reply) (history (after f (s ++ x ∷ [])) xs)) (placed (empty f) (s ++ x ∷ xs)) = subst (λ z. IsListRun l.equal (placed (empty f) (s ++ x ∷ [])) (map (asked l) (history (after f (s ++ x ∷ [])) xs)) (map (λ r. r.reply) (history (after f (s ++ x ∷ [])) xs)) (placed (empty f) z)) assoc n in
    let n3 : IsListRun l.equal (placed (empty f) (s ++ x ∷ [])) (map (asked l) (history (happens (after f s) x) xs)) (map (λ r. r.reply) (history (happens (after f s) x) xs)) (placed (empty f) (s ++ x ∷ xs)) = subst (λ z. IsListRun l.equal (placed (empty f) (s ++ x ∷ [])) (map (asked l) (history z xs)) (map (λ r. r.reply) (history z xs)) (placed (empty f) (s ++ x ∷ xs))) (after_snoc f s x) n2 in
    run_cons l f s x xs (history_at (after f s) x xs (acts (after f s) x)) (placed_at (after f s) x) (stands_act l f i s x xs (acts (after f s) x) u refl) (placed_snoc f s x) (history (happens (after f s) x) xs) n3

-- What stands in the history

-- a reply that stands for this event
pub data Standing (w : World) (x : Event) (xs : List Event) (c : Call) (a : Answer) (r : Finished) : Type 0 where
  unfinished : (v : ℕ) → fate w (x ∷ xs) c.number ≡ None → a ≡ Won → c.value ≡ Some v → r ≡ record { call = c.number; reply = ReplyPlaced v } → Standing w x xs c a r
  finished : fate w (x ∷ xs) c.number ≡ Some r → is_moment r.reply c.state.phase a ≡ true → (is_refusal r.reply ≡ true → has_later may_be_refused (happens w x) xs c.number ≡ false) → Standing w x xs c a r

pub record StandsFor (w : World) (x : Event) (xs : List Event) (r : Finished) : Type 0 where
  pub call : Call
  pub found : Answer
  pub taken : acts w x ≡ Some (Goes call found)
  pub number : r.call ≡ call.number
  pub stands : Standing w x xs call found r

pub is_one : {X : Type 0} (y x : X) → Is x (y ∷ []) → y ≡ x
is_one y x (inl e) = e
is_one y x (inr h) = absurd h

pub stands_unfinished : (w : World) (x : Event) (xs : List Event) (c : Call) (a : Answer) (r : Finished) → fate w (x ∷ xs) c.number ≡ None → (placed_by (Some (Goes c a)) ≡ []) ⊎ ((v : ℕ) × (a ≡ Won) × (c.value ≡ Some v) × (placed_by (Some (Goes c a)) ≡ v ∷ [])) → Is r (placed_here c.number (placed_by (Some (Goes c a)))) → Standing w x xs c a r
stands_unfinished w x xs c a r f (inl e) i = absurd (let z : Is r (placed_here c.number []) = rw e at i in z)
stands_unfinished w x xs c a r f (inr k) i = let z : Is r (placed_here c.number (k.0 ∷ [])) = rw k.3 at i in unfinished k.0 f k.1 k.2 (sym (is_one _ r z))

pub stands_finished : (w : World) (x : Event) (xs : List Event) (c : Call) (a : Answer) (q r : Finished) (later b : Bool) → fate w (x ∷ xs) c.number ≡ Some q → has_later may_be_refused (happens w x) xs c.number ≡ later → (is_moment q.reply c.state.phase a && not (is_refusal q.reply && later)) ≡ b → Is r (if b then q ∷ [] else []) → Standing w x xs c a r
stands_finished w x xs c a q r later true f e k i =
    let z = and_parts _ _ k in
    let m : q ≡ r = is_one q r i in
    rw (← m) (finished f z.0 (λ g. e ∙ not_both _ _ z.1 g))
stands_finished w x xs c a q r later false f e k i = absurd i

pub standing_of : (w : World) (x : Event) (xs : List Event) (c : Call) (a : Answer) (r : Finished) (o : Option Finished) → fate w (x ∷ xs) c.number ≡ o → Is r (stands_here c a o (has_later may_be_refused (happens w x) xs c.number)) → Standing w x xs c a r
standing_of w x xs c a r None f i = stands_unfinished w x xs c a r f (placed_or_none c a) i
standing_of w x xs c a r (Some q) f i = stands_finished w x xs c a q r _ _ f refl refl i

pub find_number_at : (n : ℕ) (x : Finished) (rs : List Finished) (r : Finished) (b : Bool) → (x.call == n) ≡ b → (if b then Some x else find (λ (r : Finished). r.call == n) rs) ≡ Some r → (find (λ (r : Finished). r.call == n) rs ≡ Some r → r.call ≡ n) → r.call ≡ n
find_number_at n x rs r true e h k = let m : x ≡ r = cc in ap (λ (z : Finished). z.call) (sym m) ∙ eqb-true x.call n e
find_number_at n x rs r false e h k = k h

pub find_number : (n : ℕ) (rs : List Finished) (r : Finished) → find (λ (r : Finished). r.call == n) rs ≡ Some r → r.call ≡ n
find_number n [] r h = absurd (cc)
find_number n (x ∷ rs) r h = find_number_at n x rs r (x.call == n) refl h (find_number n rs r)

pub stands_number : (w : World) (x : Event) (xs : List Event) (c : Call) (a : Answer) (r : Finished) → Standing w x xs c a r → r.call ≡ c.number
stands_number w x xs c a r (unfinished v f e k m) = ap (λ (z : Finished). z.call) m
stands_number w x xs c a r (finished f e k) = find_number c.number (replies w (x ∷ xs)) r f

pub stands_for : (w : World) (x : Event) (xs : List Event) (r : Finished) (o : Option Act) → acts w x ≡ o → Is r (history_at w x xs o) → StandsFor w x xs r
stands_for w x xs r None e i = absurd i
stands_for w x xs r (Some (Begins c)) e i = absurd i
stands_for w x xs r (Some (Goes c a)) e i = let k = standing_of w x xs c a r (fate w (x ∷ xs) c.number) refl i in record { call = c; found = a; taken = e; number = stands_number w x xs c a r k; stands = k }

-- a reply in the history, and its event
pub record InHistory (w : World) (es : List Event) (r : Finished) : Type 0 where
  pub before : List Event
  pub event : Event
  pub rest : List Event
  pub split : es ≡ before ++ event ∷ rest
  pub stands : StandsFor (run w before) event rest r

pub in_history : (es : List Event) (w : World) (r : Finished) → Is r (history w es) → InHistory w es r
in_history [] w r i = absurd i
in_history (x ∷ xs) w r i = elim (is_either r (history_at w x xs (acts w x)) (history (happens w x) xs) i) [
  | inl k ↦ record { before = []; event = x; rest = xs; split = refl; stands = stands_for w x xs r (acts w x) refl k }
  | inr k ↦ (let h = in_history xs (happens w x) r k in record { before = x ∷ h.before; event = h.event; rest = h.rest; split = ap (λ l. x ∷ l) h.split; stands = h.stands })
]
