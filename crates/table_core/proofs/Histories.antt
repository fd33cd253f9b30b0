-- The finished inserts and look-ups are one run of the list object.
use Rattle.std.proofs.Common.{ℕ, ◌≡◌, ◌++◌, ◌⊎◌, inl, inr, List, [], ◌∷◌, Bool, true, false, refl, Option, Some, None, sym, subst, ap, ◌∙◌}
use Rattle.std.specs.Prelude.{◌&&◌, option_to_list, not}
use Rattle.table_core.specs.Replies.{Reply, ReplyPlaced, ReplyLen, ReplyWalk, Finished}
use Rattle.table_core.specs.Generations.{Table}
use Rattle.table_terms.specs.Capacities.{IsFirstCapacity}
use Rattle.table_core.specs.Phases.{stands}
use Rattle.table_core.specs.Calls.{Call, is_pending}
use Rattle.table_core.specs.Machine.{World, empty, bucket_of, reply_of_outcome, Goes, acts, happens, finishes, run, after}
use Rattle.table_core.specs.History.{replies, fate, placed_by, placed, has_later}
use Rattle.table_core.specs.Steps.{Row, shares, puts, leaves_refused, small, ends, ends_failed, gives_up, looks_none, look_empty, look_meets, look_turns, look_turns_unasked, len_none, len_size, walk_none, walk_skips_last, walk_takes_last}
use Rattle.table_core.specs.declared.event.Event.{Event}
use Rattle.table_core.specs.declared.call.CallState.{CallState}
use Rattle.table_core.specs.declared.call.Phase.{Phase}
use Rattle.table_core.specs.declared.call.Phase.TheVariants.{AtEmpty, LeaveRefused, AskSize, LeaveOwned, LeaveFailed, LookLoad, LookProbe, LenLoad, LenSize, WalkLoad, WalkAt}
use Rattle.table_core.specs.declared.call.Outcome.{Outcome}
use Rattle.table_core.specs.declared.call.Outcome.TheVariants.{Pending, New, Existing}
use Rattle.table_core.specs.declared.call.Answer.{Answer}
use Rattle.table_core.specs.declared.call.Answer.TheVariants.{Won}
use Rattle.table_core.proofs.Locks.{more}
use Rattle.std.proofs.Common.{append_assoc}
use Rattle.std.specs.Option.{is_some}
use Rattle.table_core.specs.ListObject.{Answers}
use Rattle.table_core.specs.Law.{Law, IsLawful}
use Rattle.table_core.specs.Lists.{asked, is_list_reply, is_moment, may_be_refused, is_refusal, IsRight}
use Rattle.table_core.proofs.Pasts.{after_snoc, has_later_append, placed_snoc}
use Rattle.table_core.proofs.Standing.{fitting, Each, of_each, implies, imply, pending_of}
use Rattle.table_core.proofs.Facts.{in_table, probing, is_asking}
use Rattle.table_core.proofs.Invariant.{inv}
use Rattle.table_core.proofs.Lawful.{law_after, lawful_before, fresh_value}
use Rattle.table_core.proofs.Right.{say, right, place_answer}
use Rattle.table_core.proofs.Callings.{took_after, run_after, telling}
use Rattle.table_core.proofs.Settled.{moment_once, refusal_try, later_found}
use Rattle.table_core.proofs.Truth.{not_both_ways}
use Rattle.std.proofs.lemmas.Bool.{cases_Bool, or_parts}

-- Schedules cut twice

pub data Cut (m : List Event) (x : Event) (r : List Event) (m2 : List Event) (x2 : Event) (r2 : List Event) : Type 0 where
  same : m ≡ m2 → x ≡ x2 → r ≡ r2 → Cut m x r m2 x2 r2
  later : (d : List Event) → m2 ≡ m ++ x ∷ d → r ≡ d ++ x2 ∷ r2 → Cut m x r m2 x2 r2
  earlier : (d : List Event) → m ≡ m2 ++ x2 ∷ d → r2 ≡ d ++ x ∷ r → Cut m x r m2 x2 r2

pub cut_cons : (z y : Event) (m : List Event) (x : Event) (r : List Event) (m2 : List Event) (x2 : Event) (r2 : List Event) → z ≡ y → Cut m x r m2 x2 r2 → Cut (z ∷ m) x r (y ∷ m2) x2 r2
cut_cons z y m x r m2 x2 r2 e (same a b c) = same (rw (e, a) refl) b c
cut_cons z y m x r m2 x2 r2 e (later d a b) = later d (rw (e, a) refl) b
cut_cons z y m x r m2 x2 r2 e (earlier d a b) = earlier d (rw (e, a) refl) b

pub heads : (a b : Event) (xs ys : List Event) → a ∷ xs ≡ b ∷ ys → (a ≡ b) × (xs ≡ ys)
heads a b xs ys h = (cc, cc)

pub cut : (m : List Event) (x : Event) (r : List Event) (m2 : List Event) (x2 : Event) (r2 : List Event) → m ++ x ∷ r ≡ m2 ++ x2 ∷ r2 → Cut m x r m2 x2 r2
cut [] x r [] x2 r2 h = let k = heads x x2 r r2 h in same refl k.0 k.1
cut [] x r (y ∷ m2) x2 r2 h = let k = heads x y r (m2 ++ x2 ∷ r2) h in later m2 (rw k.0 refl) k.1
cut (z ∷ m) x r [] x2 r2 h = let k = heads z x2 (m ++ x ∷ r) r2 h in earlier m (rw k.0 refl) (sym k.1)
cut (z ∷ m) x r (y ∷ m2) x2 r2 h = let k = heads z y (m ++ x ∷ r) (m2 ++ x2 ∷ r2) h in cut_cons z y m x r m2 x2 r2 k.0 (cut m x r m2 x2 r2 k.1)

-- What stands in the history for one event

-- an event that places a value
pub record PlacesHere (w : World) (c : Call) (p : Phase) : Type 0 where
  pub phase : p ≡ AtEmpty
  pub empty : bucket_of w.table c.state ≡ None

pub won_row : (w : World) (c : Call) {p : Phase} {x : Event} {a : Answer} {r : CallState} {ls : List ℕ} {t : Table} {q : Option Reply} → Row w c p x a r ls t q → a ≡ Won → PlacesHere w c p
won_row w c (puts _ _ n) h = record { phase = refl; empty = n }
won_row w c (shares _ _) h = absurd (cc)
won_row w c _ h = absurd (cc)

pub placed_of : (c : Call) (v : Option ℕ) → c.value ≡ v → (option_to_list c.value ≡ []) ⊎ ((u : ℕ) × (Won ≡ Won) × (c.value ≡ Some u) × (option_to_list c.value ≡ u ∷ []))
placed_of c None e = inl (rw e refl)
placed_of c (Some v) e = inr (v, refl, e, rw e refl)

pub placed_or_none : (c : Call) (a : Answer) → (placed_by (Some (Goes c a)) ≡ []) ⊎ ((v : ℕ) × (a ≡ Won) × (c.value ≡ Some v) × (placed_by (Some (Goes c a)) ≡ v ∷ []))
placed_or_none c Won = placed_of c c.value refl
placed_or_none c _ = inl refl

pub data StandsHere (l : Law) (f : ℕ) (s : List Event) (h : List Finished) (v : List ℕ) : Type 0 where
  nothing : h ≡ [] → v ≡ [] → StandsHere l f s h v
  one : (r : Finished) → h ≡ r ∷ [] → Answers l.equal (placed (empty f) s) (asked l r) r.reply (placed (empty f) s ++ v) → StandsHere l f s h v

-- the put of a value is its moment
pub put_answer : (l : Law) (f : ℕ) → IsFirstCapacity f → (s : List Event) (x : Event) (c : Call) (a : Answer) (v : ℕ) → IsLawful l f s → acts (after f s) x ≡ Some (Goes c a) → a ≡ Won → c.value ≡ Some v → Answers l.equal (placed (empty f) s) (asked l (say c.number (ReplyPlaced v))) (ReplyPlaced v) (placed (empty f) s ++ option_to_list c.value)
put_answer l f i s x c a v u h e k =
    let t = took_after f s x c a h in
    let p = won_row (after f s) c t.row e in
    let ph : c.state.phase ≡ AtEmpty = t.was ∙ p.phase in
    place_answer l (placed (empty f) s) c v k (fresh_value l (after f s) (placed (empty f) s) (replies (empty f) s) t.at c t.there p.empty (ap probing ph) (ap stands ph) (ap is_asking ph) (inv f i s) (law_after l f i s u))

pub moment_of_list : (t : Reply) (p : Phase) (a : Answer) → is_moment t p a ≡ true → is_list_reply t ≡ true
moment_of_list (ReplyLen k) p a h = absurd (cc)
moment_of_list (ReplyWalk es) p a h = absurd (cc)
moment_of_list _ p a h = refl

pub not_both : (a b : Bool) → not (a && b) ≡ true → a ≡ true → b ≡ false
not_both true true h k = absurd (cc)
not_both true false h k = refl
not_both false b h k = absurd (cc)

-- two moments of one reply are one event
pub record SameMoment (m : List Event) (x : Event) (r : List Event) (m2 : List Event) (x2 : Event) (r2 : List Event) : Type 0 where
  pub before : m ≡ m2
  pub event : x ≡ x2
  pub rest : r ≡ r2

pub refused_before : (f : ℕ) (t : Reply) (s : List Event) (x : Event) (d : List Event) (y : Event) (more : List Event) (n : ℕ) (c : Call) (a : Answer) → acts (after f (s ++ x ∷ d)) y ≡ Some (Goes c a) → c.number ≡ n → is_moment t c.state.phase a ≡ true → is_refusal t ≡ true → has_later may_be_refused (after f (s ++ x ∷ [])) (d ++ y ∷ more) n ≡ false → ⊥
refused_before f t s x d y more n c a h e m u k =
    let g : acts (after f ((s ++ x ∷ []) ++ d)) y ≡ Some (Goes c a) = rw (append_assoc s (x ∷ []) d) h in
    let z : has_later may_be_refused (after f (s ++ x ∷ [])) (d ++ y ∷ more) n ≡ true = later_found may_be_refused f (s ++ x ∷ []) d y more n c a g e (refusal_try t c.state.phase a m u) in
    cc

pub apart_moments : (f : ℕ) → IsFirstCapacity f → (t : Reply) (s : List Event) (x : Event) (d : List Event) (y : Event) (more : List Event) (n : ℕ) (c e : Call) (a b : Answer) → acts (after f s) x ≡ Some (Goes c a) → c.number ≡ n → is_moment t c.state.phase a ≡ true → acts (after f (s ++ x ∷ d)) y ≡ Some (Goes e b) → e.number ≡ n → is_moment t e.state.phase b ≡ true → (is_refusal t ≡ true → has_later may_be_refused (after f (s ++ x ∷ [])) (d ++ y ∷ more) n ≡ false) → ⊥
apart_moments f i t s x d y more n c e a b h k m g o u z = elim (cases_Bool (is_refusal t)) [
  | inl q ↦ refused_before f t s x d y more n e b g o u q (z q)
  | inr q ↦ moment_once f i t s x d y n c e a b h k m g o u q
]

pub same_moment : (f : ℕ) → IsFirstCapacity f → (t : Reply) (n : ℕ) (m : List Event) (x : Event) (r : List Event) (m2 : List Event) (x2 : Event) (r2 : List Event) (c e : Call) (a b : Answer) → m ++ x ∷ r ≡ m2 ++ x2 ∷ r2 →
    acts (after f m) x ≡ Some (Goes c a) → c.number ≡ n → is_moment t c.state.phase a ≡ true → (is_refusal t ≡ true → has_later may_be_refused (after f (m ++ x ∷ [])) r n ≡ false) →
    acts (after f m2) x2 ≡ Some (Goes e b) → e.number ≡ n → is_moment t e.state.phase b ≡ true → (is_refusal t ≡ true → has_later may_be_refused (after f (m2 ++ x2 ∷ [])) r2 n ≡ false) →
    Cut m x r m2 x2 r2 → SameMoment m x r m2 x2 r2
same_moment f i t n m x r m2 x2 r2 c e a b eq h k o u g j v w (same p q z) = record { before = p; event = q; rest = z }
same_moment f i t n m x r m2 x2 r2 c e a b eq h k o u g j v w (later d p q) = absurd (apart_moments f i t m x d x2 r2 n c e a b h k o (rw p at g) j v (λ z. rw q at (u z)))
same_moment f i t n m x r m2 x2 r2 c e a b eq h k o u g j v w (earlier d p q) = absurd (apart_moments f i t m2 x2 d x r n e c b a g j v (rw p at h) k o (λ z. rw q at (w z)))

-- the reply that a call will be told, with the schedule up to it
pub record Ending (f : ℕ) (s : List Event) (x : Event) (xs : List Event) (r : Finished) : Type 0 where
  pub inner : List Event
  pub event : Event
  pub last : List Event
  pub till : s ++ x ∷ inner ≡ last ++ event ∷ []
  pub reply : finishes (after f last) event ≡ Some r
  pub rest : List Event
  pub split : xs ≡ inner ++ rest

pub ending_at : (f : ℕ) (s : List Event) (x : Event) (xs : List Event) (r : Finished) (b : List Event) (y : Event) (d : List Event) → x ∷ xs ≡ b ++ y ∷ d → finishes (run (after f s) b) y ≡ Some r → Ending f s x xs r
ending_at f s x xs r [] y d e h = let k = heads x y xs d e in record { inner = []; event = y; last = s; till = rw k.0 refl; reply = h; rest = d; split = k.1 }
ending_at f s x xs r (z ∷ b) y d e h =
    let k = heads x z xs (b ++ y ∷ d) e in
    record {
      inner = b ++ y ∷ [];
      event = y;
      last = s ++ z ∷ b;
      till = rw k.0 (sym (append_assoc s (z ∷ b) (y ∷ [])));
      reply = rw (run_after f s (z ∷ b)) at h;
      rest = d;
      split = k.1 ∙ sym (append_assoc b (y ∷ []) d);
    }

pub ending : (f : ℕ) (s : List Event) (x : Event) (xs : List Event) (n : ℕ) (r : Finished) → fate (after f s) (x ∷ xs) n ≡ Some r → Ending f s x xs r × (r.call ≡ n)
ending f s x xs n r h = let t = telling (x ∷ xs) (after f s) n r h in (ending_at f s x xs r t.before t.event t.rest t.split t.reply, t.number)

pub lawful_till : (l : Law) (f : ℕ) (s : List Event) (x : Event) (xs inner rest : List Event) (last : List Event) (y : Event) → s ++ x ∷ inner ≡ last ++ y ∷ [] → xs ≡ inner ++ rest → IsLawful l f (s ++ x ∷ xs) → IsLawful l f (last ++ y ∷ [])
lawful_till l f s x xs inner rest last y e h u =
    let q : s ++ x ∷ xs ≡ (s ++ x ∷ inner) ++ rest = ap (λ z. s ++ x ∷ z) h ∙ sym (append_assoc s (x ∷ inner) rest) in
    let v : IsLawful l f ((s ++ x ∷ inner) ++ rest) = subst (λ z. IsLawful l f z) q u in
    subst (λ z. IsLawful l f z) e (lawful_before l (s ++ x ∷ inner) rest (empty f) v)

pub answer_at : (l : Law) (f : ℕ) (r : Finished) (m : List Event) (x : Event) (b : List Event) (y : Event) → m ≡ b → x ≡ y → Answers l.equal (placed (empty f) b) (asked l r) r.reply (placed (empty f) (b ++ y ∷ [])) → Answers l.equal (placed (empty f) m) (asked l r) r.reply (placed (empty f) (m ++ x ∷ []))
answer_at l f r m x b y e g k = rw (e, g) k

-- at the moment of its reply a call has the list object's answer
pub answer_here : (l : Law) (f : ℕ) → IsFirstCapacity f → (s : List Event) (x : Event) (xs : List Event) (c : Call) (a : Answer) (r : Finished) → IsLawful l f (s ++ x ∷ xs) → acts (after f s) x ≡ Some (Goes c a) → fate (after f s) (x ∷ xs) c.number ≡ Some r → is_moment r.reply c.state.phase a ≡ true → (is_refusal r.reply ≡ true → has_later may_be_refused (happens (after f s) x) xs c.number ≡ false) → Answers l.equal (placed (empty f) s) (asked l r) r.reply (placed (empty f) s ++ placed_by (Some (Goes c a)))
answer_here l f i s x xs c a r u h e m z =
    let t = ending f s x xs c.number r e in
    let g = t.0 in
    let k : IsRight l f (g.last ++ g.event ∷ []) r = right l f g.last g.event r i (lawful_till l f s x xs g.inner g.rest g.last g.event g.till g.split u) g.reply (moment_of_list r.reply c.state.phase a m) in
    let eq : s ++ x ∷ g.inner ≡ k.at.before ++ k.at.event ∷ k.at.rest = g.till ∙ k.at.split in
    let early : is_refusal r.reply ≡ true → has_later may_be_refused (after f (s ++ x ∷ [])) g.inner r.call ≡ false = λ q. (
    let y : has_later may_be_refused (happens (after f s) x) (g.inner ++ g.rest) c.number ≡ false = rw g.split at (z q) in
    let y2 : has_later may_be_refused (after f (s ++ x ∷ [])) (g.inner ++ g.rest) c.number ≡ false = rw (after_snoc f s x) y in
    let y3 = or_parts _ _ (sym (has_later_append may_be_refused g.inner g.rest (after f (s ++ x ∷ [])) c.number) ∙ y2) in
    subst (λ n. has_later may_be_refused (after f (s ++ x ∷ [])) g.inner n ≡ false) (sym t.1) y3.0) in
    let w = same_moment f i r.reply r.call s x g.inner k.at.before k.at.event k.at.rest c k.at.call a k.at.found eq h (sym t.1) m early k.at.taken k.at.own k.moment k.last (cut s x g.inner k.at.before k.at.event k.at.rest eq) in
    let ans : Answers l.equal (placed (empty f) s) (asked l r) r.reply (placed (empty f) (s ++ x ∷ [])) = answer_at l f r s x k.at.before k.at.event w.before w.event k.answer in
    subst (λ v. Answers l.equal (placed (empty f) s) (asked l r) r.reply v) (placed_snoc f s x ∙ ap (λ o. placed (empty f) s ++ placed_by o) h) ans

-- A call that has placed its value is told so

pub placed_told_at : (t : Table) (s : CallState) (p : Phase) (o : Outcome) (v : Option ℕ) (b : Reply) → reply_of_outcome o t s v ≡ Some b → ((i : ℕ) → in_table p (Existing i) ≡ false) → in_table p o ≡ true → (u : ℕ) × (b ≡ ReplyPlaced u)
placed_told_at t s p Pending None b h n k = absurd (cc)
placed_told_at t s p Pending (Some v) b h n k = absurd (cc)
placed_told_at t s p (New i) None b h n k = absurd (cc)
placed_told_at t s p (New i) (Some v) b h n k = (v, (let z : ReplyPlaced v ≡ b = cc in sym z))
placed_told_at t s p (Existing i) v b h n k = absurd (let z : in_table p (Existing i) ≡ false = n i in cc)

abbrev not_in_table : Phase → Bool → Outcome → Bool
not_in_table p b o = implies (fitting b p o) (not (in_table p o))

pub never_placed : (p : Phase) → Each (not_in_table p) → (b : Bool) (o : Outcome) → fitting b p o ≡ true → in_table p o ≡ true → ⊥
never_placed p h b o f k = not_both_ways (in_table p o) (imply (fitting b p o) _ (of_each (not_in_table p) h b o) f) k

pub pending_not_placed : (p : Phase) (o : Outcome) → (in_table p Pending ≡ false) → is_pending o ≡ true → in_table p o ≡ true → ⊥
pending_not_placed p o n h k = let e : o ≡ Pending = pending_of o h in let z : in_table p Pending ≡ true = rw e at k in cc

pub placed_told : (w : World) (c : Call) {p : Phase} {x : Event} {a : Answer} {r : CallState} {ls : List ℕ} {t : Table} {q : Option Reply} → Row w c p x a r ls t q → fitting (is_some c.value) p c.state.outcome ≡ true → in_table p c.state.outcome ≡ true → (b : Reply) → q ≡ Some b → (u : ℕ) × (b ≡ ReplyPlaced u)
placed_told w c (leaves_refused _) f k b h = absurd (never_placed LeaveRefused (refl, λ i. refl, λ i. refl, refl, λ i. refl, λ i. refl) (is_some c.value) c.state.outcome f k)
placed_told w c (small _ _ _ _) f k b h = placed_told_at w.table c.state AskSize c.state.outcome c.value b h (λ i. refl) k
placed_told w c (ends _ _) f k b h = placed_told_at w.table c.state LeaveOwned c.state.outcome c.value b h (λ i. refl) k
placed_told w c (ends_failed _ _) f k b h = placed_told_at w.table c.state LeaveFailed c.state.outcome c.value b h (λ i. refl) k
placed_told w c (gives_up _ n _) f k b h = absurd (pending_not_placed LeaveFailed c.state.outcome refl n k)
placed_told w c (looks_none _ _) f k b h = absurd (never_placed LookLoad (refl, λ i. refl, λ i. refl, refl, λ i. refl, λ i. refl) (is_some c.value) c.state.outcome f k)
placed_told w c (look_empty _ _ _) f k b h = absurd (never_placed LookProbe (refl, λ i. refl, λ i. refl, refl, λ i. refl, λ i. refl) (is_some c.value) c.state.outcome f k)
placed_told w c (look_meets _ _ _ _ _) f k b h = absurd (never_placed LookProbe (refl, λ i. refl, λ i. refl, refl, λ i. refl, λ i. refl) (is_some c.value) c.state.outcome f k)
placed_told w c (look_turns _ _ _ _ _ _) f k b h = absurd (never_placed LookProbe (refl, λ i. refl, λ i. refl, refl, λ i. refl, λ i. refl) (is_some c.value) c.state.outcome f k)
placed_told w c (look_turns_unasked _ _ _ _ _ _) f k b h = absurd (never_placed LookProbe (refl, λ i. refl, λ i. refl, refl, λ i. refl, λ i. refl) (is_some c.value) c.state.outcome f k)
placed_told w c (len_none _ _) f k b h = absurd (never_placed LenLoad (refl, λ i. refl, λ i. refl, refl, λ i. refl, λ i. refl) (is_some c.value) c.state.outcome f k)
placed_told w c (len_size _ _ _) f k b h = absurd (never_placed LenSize (refl, λ i. refl, λ i. refl, refl, λ i. refl, λ i. refl) (is_some c.value) c.state.outcome f k)
placed_told w c (walk_none _ _) f k b h = absurd (never_placed WalkLoad (refl, λ i. refl, λ i. refl, refl, λ i. refl, λ i. refl) (is_some c.value) c.state.outcome f k)
placed_told w c (walk_skips_last _ _ _ _) f k b h = absurd (never_placed WalkAt (refl, λ i. refl, λ i. refl, refl, λ i. refl, λ i. refl) (is_some c.value) c.state.outcome f k)
placed_told w c (walk_takes_last _ _ _ _ _) f k b h = absurd (never_placed WalkAt (refl, λ i. refl, λ i. refl, refl, λ i. refl, λ i. refl) (is_some c.value) c.state.outcome f k)
placed_told w c _ f k b h = absurd (cc)
