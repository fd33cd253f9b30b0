-- One history: each finished call once, nothing else, in the order of the calls.
use Rattle.std.proofs.Common.{eqb-true, ℕ, ◌≡◌, ◌+◌, ◌≤◌, ◌++◌, ◌⊎◌, inl, inr, List, [], ◌∷◌, Bool, true, false, refl, Option, Some, None, length, sym, subst, ap, arith, ◌∙◌}
use Rattle.std.specs.Prelude.{◌==◌, ◌&&◌, ◌||◌, if◌then◌else◌, option_to_list, not}
use Rattle.std.specs.List.{find}
use Rattle.table_core.proofs.Weights.{weigh, count_by-ifs}
use Rattle.table_core.specs.Replies.{ReplyPlaced, Finished}
use Rattle.table_terms.specs.Capacities.{IsFirstCapacity}
use Rattle.table_core.specs.Calls.{Call}
use Rattle.table_core.specs.Machine.{World, empty, Act, Begins, Goes, acts, happens, finishes, run, after}
use Rattle.table_core.specs.History.{replies, fate, placed_by, placed, has_later}
use Rattle.table_core.specs.Steps.{left}
use Rattle.table_core.specs.declared.event.Event.{Event}
use Rattle.table_core.specs.declared.call.Phase.{Phase}
use Rattle.table_core.specs.declared.call.Answer.{Answer}
use Rattle.table_core.specs.declared.call.Answer.TheVariants.{Won}
use Rattle.table_core.proofs.Lists.{weigh-append, get-set_same}
use Rattle.table_core.proofs.Locks.{more}
use Rattle.std.specs.Prelude.{Contains}
use Rattle.std.proofs.Common.{append_assoc}
use Rattle.std.proofs.lemmas.Bool.{eq-eqb, eqb-true}
use Rattle.table_core.specs.Law.{Law, IsLawful}
use Rattle.table_core.specs.Lists.{HasBegun, is_list_reply, placed_here, reply_here, stands_here, history_at, history, is_moment, may_be_refused, is_refusal, IsRight, HasPlaced, OneHistory, InOrder}
use Rattle.table_core.proofs.Pasts.{after_snoc, has_later_append}
use Rattle.table_core.proofs.Invariant.{inv}
use Rattle.table_core.proofs.Members.{Is, is_left, is_right, is_either, in_of, contains_of}
use Rattle.table_core.proofs.Lawful.{lawful_before}
use Rattle.table_core.proofs.Right.{right}
use Rattle.table_core.proofs.Callings.{Took, took_after, Has, Kept, has_after, run_after, IsDone, replied, reply_ends, acts_untold, done_later, find_append_none}
use Rattle.table_core.specs.Values.{IsOwn}
use Rattle.table_core.proofs.OwnAnswers.{own_answers}
use Rattle.table_core.proofs.Beginnings.{all_began, own_later, placed_own}
use Rattle.table_core.proofs.Settled.{moment_once}
use Rattle.table_core.proofs.Pasts.{replies_append, placed_append, after_taken}
use Rattle.table_core.proofs.Histories.{heads, won_row, apart_moments}
use Rattle.table_core.proofs.HistoryRuns.{runs_from, Standing, unfinished, finished, StandsFor, InHistory, in_history, stands_for}

-- A history cut in two

abbrev pub part : World → List Event → List Event → List Finished
part w [] es = []
part w (x ∷ m) es = history_at w x (m ++ es) (acts w x) ++ part (happens w x) m es

pub history_split : (m es : List Event) (w : World) → history w (m ++ es) ≡ part w m es ++ history (run w m) es
history_split [] es w = refl
history_split (x ∷ m) es w = ap (λ l. history_at w x (m ++ es) (acts w x) ++ l) (history_split m es (happens w x)) ∙ sym (append_assoc (history_at w x (m ++ es) (acts w x)) (part (happens w x) m es) (history (run (happens w x) m) es))

-- Each finished call stands in it

pub record InReplies (w : World) (es : List Event) (r : Finished) : Type 0 where
  pub before : List Event
  pub event : Event
  pub rest : List Event
  pub split : es ≡ before ++ event ∷ rest
  pub reply : finishes (run w before) event ≡ Some r

pub is_option : (o : Option Finished) (r : Finished) → Is r (option_to_list o) → o ≡ Some r
is_option None r i = absurd i
is_option (Some q) r (inl e) = ap Some e
is_option (Some q) r (inr i) = absurd i

pub in_replies : (es : List Event) (w : World) (r : Finished) → Is r (replies w es) → InReplies w es r
in_replies [] w r i = absurd i
in_replies (x ∷ xs) w r i = elim (is_either r (option_to_list (finishes w x)) (replies (happens w x) xs) i) [
  | inl k ↦ record { before = []; event = x; rest = xs; split = refl; reply = is_option (finishes w x) r k }
  | inr k ↦ (let h = in_replies xs (happens w x) r k in record { before = x ∷ h.before; event = h.event; rest = h.rest; split = ap (λ l. x ∷ l) h.split; reply = h.reply })
]

-- the last event of two cuts
pub record LastCut (m : List Event) (x : Event) (r : List Event) (b : List Event) (y : Event) : Type 0 where
  pub inner : List Event
  pub tail : x ∷ r ≡ inner ++ y ∷ []
  pub head : b ≡ m ++ inner

pub no_end : (m : List Event) (x : Event) (r : List Event) → [] ≡ m ++ x ∷ r → ⊥
no_end [] x r h = cc
no_end (z ∷ m) x r h = cc

pub last_cut_cons : (z v : Event) (m : List Event) (x : Event) (r : List Event) (b : List Event) (y : Event) → z ≡ v → LastCut m x r b y → LastCut (v ∷ m) x r (z ∷ b) y
last_cut_cons z v m x r b y e k = record { inner = k.inner; tail = k.tail; head = rw (e, k.head) refl }

pub last_cut : (m : List Event) (x : Event) (r : List Event) (b : List Event) (y : Event) → b ++ y ∷ [] ≡ m ++ x ∷ r → LastCut m x r b y
last_cut [] x r b y h = record { inner = b; tail = sym h; head = refl }
last_cut (z ∷ m) x r [] y h = absurd (no_end m x r (heads y z [] (m ++ x ∷ r) h).1)
last_cut (z ∷ m) x r (v ∷ b) y h = let k = heads v z (b ++ y ∷ []) (m ++ x ∷ r) h in last_cut_cons v z m x r b y k.0 (last_cut m x r b y k.1)

pub find_here : (n : ℕ) (o : Option Finished) (rs : List Finished) (r : Finished) → o ≡ Some r → r.call ≡ n → find (λ (r : Finished). r.call == n) (option_to_list o ++ rs) ≡ Some r
find_here n None rs r h e = absurd (cc)
find_here n (Some q) rs r h e = let m : q ≡ r = cc in let z : (q.call == n) ≡ true = eq-eqb q.call n (ap (λ (z : Finished). z.call) m ∙ e) in rw z (ap Some m)

-- what a call is told by the event that ends it
pub fate_till : (f : ℕ) → IsFirstCapacity f → (m b : List Event) (y : Event) (d : List Event) (r : Finished) → finishes (after f (m ++ b)) y ≡ Some r → fate (after f m) (b ++ y ∷ d) r.call ≡ Some r
fate_till f i m b y d r h =
    let q = replied f (m ++ b) y r h in
    let u : fate (after f m) b r.call ≡ None = acts_untold f i m b r.call y q.call q.found q.taken q.number in
    let w : finishes (run (after f m) b) y ≡ Some r = rw (run_after f m b) h in
    ap (λ l. find (λ (r2 : Finished). r2.call == r.call) l) (replies_append b (y ∷ d) (after f m)) ∙ (find_append_none r.call (replies (after f m) b) (replies (run (after f m) b) (y ∷ d)) u ∙ find_here r.call (finishes (run (after f m) b) y) (replies (happens (run (after f m) b) y) d) r w refl)

pub either_way : (a b : Bool) → (a ≡ true → b ≡ false) → not (a && b) ≡ true
either_way true true h = absurd (let z : true ≡ false = h refl in cc)
either_way true false h = refl
either_way false b h = refl

pub is_told_here : (p : Phase) (a : Answer) (r : Finished) (later : Bool) → is_moment r.reply p a ≡ true → (is_refusal r.reply ≡ true → later ≡ false) → Is r (reply_here p a r later)
is_told_here p a r later h k = let z : not (is_refusal r.reply && later) ≡ true = either_way (is_refusal r.reply) later k in rw (h, z) (inl refl)

pub is_stands_here : (c : Call) (a : Answer) (o : Option Finished) (r : Finished) (later : Bool) → o ≡ Some r → is_moment r.reply c.state.phase a ≡ true → (is_refusal r.reply ≡ true → later ≡ false) → Is r (stands_here c a o later)
is_stands_here c a None r later e h k = absurd (cc)
is_stands_here c a (Some q) r later e h k = let m : q ≡ r = cc in subst (λ z. Is r (reply_here c.state.phase a z later)) (sym m) (is_told_here c.state.phase a r later h k)

pub is_history_at : (w : World) (x : Event) (xs : List Event) (o : Option Act) (c : Call) (a : Answer) (r : Finished) → o ≡ Some (Goes c a) → Is r (stands_here c a (fate w (x ∷ xs) c.number) (has_later may_be_refused (happens w x) xs c.number)) → Is r (history_at w x xs o)
is_history_at w x xs None c a r e i = absurd (cc)
is_history_at w x xs (Some (Begins d)) c a r e i = absurd (cc)
is_history_at w x xs (Some (Goes d b)) c a r e i =
    let m : d ≡ c = cc in
    let n : b ≡ a = cc in
    rw (m, n) i

pub or_both : (a b : Bool) → a ≡ false → b ≡ false → (a || b) ≡ false
or_both true b h k = absurd (cc)
or_both false b h k = k

-- a finished call stands at its moment
pub stands_at_moment : (l : Law) (f : ℕ) → IsFirstCapacity f → (b : List Event) (y : Event) (d : List Event) (r : Finished) → finishes (after f b) y ≡ Some r → (k : IsRight l f (b ++ y ∷ []) r) → Is r (history (empty f) (b ++ y ∷ d))
stands_at_moment l f i b y d r h k =
    let m = k.at.before in
    let x = k.at.event in
    let g = last_cut m x k.at.rest b y k.at.split in
    let h2 : finishes (after f (m ++ g.inner)) y ≡ Some r = rw g.head at h in
    let whole : b ++ y ∷ d ≡ m ++ x ∷ (k.at.rest ++ d) = sym (append_assoc b (y ∷ []) d) ∙ (ap (λ z. z ++ d) k.at.split ∙ append_assoc m (x ∷ k.at.rest) d) in
    let tail : x ∷ (k.at.rest ++ d) ≡ g.inner ++ y ∷ d = ap (λ z. z ++ d) g.tail ∙ append_assoc g.inner (y ∷ []) d in
    let fa : fate (after f m) (x ∷ (k.at.rest ++ d)) r.call ≡ Some r = ap (λ z. fate (after f m) z r.call) tail ∙ fate_till f i m g.inner y d r h2 in
    let fc : fate (after f m) (x ∷ (k.at.rest ++ d)) k.at.call.number ≡ Some r = subst (λ n. fate (after f m) (x ∷ (k.at.rest ++ d)) n ≡ Some r) (sym k.at.own) fa in
    let done : Has IsDone (after f (b ++ y ∷ [])) r.call = reply_ends f b y r h in
    let end : run (after f (m ++ x ∷ [])) k.at.rest ≡ after f (b ++ y ∷ []) = after_taken f (b ++ y ∷ []) r.call k.at in
    let la : is_refusal r.reply ≡ true → has_later may_be_refused (after f (m ++ x ∷ [])) (k.at.rest ++ d) r.call ≡ false = λ q. has_later_append may_be_refused k.at.rest d (after f (m ++ x ∷ [])) r.call ∙ or_both _ _ (k.last q) (ap (λ z. has_later may_be_refused z d r.call) end ∙ done_later f i d (b ++ y ∷ []) may_be_refused r.call done) in
    let lc : is_refusal r.reply ≡ true → has_later may_be_refused (happens (after f m) x) (k.at.rest ++ d) k.at.call.number ≡ false = λ q. subst (λ n. has_later may_be_refused (happens (after f m) x) (k.at.rest ++ d) n ≡ false) (sym k.at.own) (subst (λ z. has_later may_be_refused z (k.at.rest ++ d) r.call ≡ false) (after_snoc f m x) (la q)) in
    let here : Is r (history_at (after f m) x (k.at.rest ++ d) (acts (after f m) x)) = is_history_at (after f m) x (k.at.rest ++ d) (acts (after f m) x) k.at.call k.at.found r k.at.taken (is_stands_here k.at.call k.at.found _ r _ fc k.moment lc) in
    let all : Is r (part (empty f) m (x ∷ (k.at.rest ++ d)) ++ history (after f m) (x ∷ (k.at.rest ++ d))) = is_right r (part (empty f) m (x ∷ (k.at.rest ++ d))) _ (is_left r (history_at (after f m) x (k.at.rest ++ d) (acts (after f m) x)) (history (happens (after f m) x) (k.at.rest ++ d)) here) in
    subst (λ z. Is r (history (empty f) z)) (sym whole) (subst (λ z. Is r z) (sym (history_split m (x ∷ (k.at.rest ++ d)) (empty f))) all)

pub each_stands : (l : Law) (f : ℕ) → IsFirstCapacity f → (s : List Event) → IsLawful l f s → (r : Finished) → Contains (replies (empty f) s) r → is_list_reply r.reply ≡ true → Contains (history (empty f) s) r
each_stands l f i s u r c z =
    let g = in_replies s (empty f) r (in_of (replies (empty f) s) r c) in
    let v : IsLawful l f (g.before ++ g.event ∷ g.rest) = subst (λ z. IsLawful l f z) g.split u in
    let v2 : IsLawful l f ((g.before ++ g.event ∷ []) ++ g.rest) = subst (λ z. IsLawful l f z) (sym (append_assoc g.before (g.event ∷ []) g.rest)) v in
    let k = right l f g.before g.event r i (lawful_before l (g.before ++ g.event ∷ []) g.rest (empty f) v2) g.reply z in
    contains_of (history (empty f) s) r (subst (λ z. Is r (history (empty f) z)) (sym g.split) (stands_at_moment l f i g.before g.event g.rest r g.reply k))

-- No call stands in it twice

abbrev pub counts : ℕ → List Finished → ℕ
counts n rs = weigh (λ r. if r.call == n then 1 else 0) rs

pub count_none_at : (n : ℕ) (x : Finished) (xs : List Finished) (b : Bool) → (x.call == n) ≡ b → (counts n xs ≡ 0) ⊎ ((r : Finished) × Is r xs × (r.call ≡ n)) → ((if b then 1 else 0) + counts n xs ≡ 0) ⊎ ((r : Finished) × Is r (x ∷ xs) × (r.call ≡ n))
count_none_at n x xs true e k = inr (x, inl refl, eqb-true x.call n e)
count_none_at n x xs false e (inl z) = inl (omega arith)
count_none_at n x xs false e (inr z) = inr (z.0, inr z.1, z.2)

pub count_none : (n : ℕ) (xs : List Finished) → (counts n xs ≡ 0) ⊎ ((r : Finished) × Is r xs × (r.call ≡ n))
count_none n [] = inl refl
count_none n (x ∷ xs) = count_none_at n x xs (x.call == n) refl (count_none n xs)

pub count_few_at : (n : ℕ) (x : Finished) (b : Bool) → (x.call == n) ≡ b → (if b then 1 else 0) ≤ 1
count_few_at n x true e = omega arith
count_few_at n x false e = omega arith

pub count_few : (n : ℕ) (xs : List Finished) → counts n xs ≤ length xs
count_few n [] = omega arith
count_few n (x ∷ xs) = omega (arith, count_few_at n x (x.call == n) refl, count_few n xs)

pub few_here : (p : Phase) (a : Answer) (r : Finished) (b : Bool) → length (if b then r ∷ [] else []) ≤ 1
few_here p a r true = omega arith
few_here p a r false = omega arith

pub few_placed : (n : ℕ) (v : Option ℕ) → length (placed_here n (option_to_list v)) ≤ 1
few_placed n None = omega arith
few_placed n (Some v) = omega arith

pub few_by : (n : ℕ) (c : Call) (a : Answer) → length (placed_here n (placed_by (Some (Goes c a)))) ≤ 1
few_by n c Won = few_placed n c.value
few_by n c _ = omega arith

pub few_stands : (c : Call) (a : Answer) (o : Option Finished) (later : Bool) → length (stands_here c a o later) ≤ 1
few_stands c a None later = few_by c.number c a
few_stands c a (Some r) later = few_here c.state.phase a r (is_moment r.reply c.state.phase a && not (is_refusal r.reply && later))

pub few_at : (w : World) (x : Event) (xs : List Event) (o : Option Act) → length (history_at w x xs o) ≤ 1
few_at w x xs None = omega arith
few_at w x xs (Some (Begins c)) = omega arith
few_at w x xs (Some (Goes c a)) = few_stands c a _ _

pub won_moment : (w : World) (x : Event) (c : Call) (a : Answer) {v : World} {r : Option Finished} → Took w x c a v r → a ≡ Won → is_moment (ReplyPlaced 0) c.state.phase a ≡ true
won_moment w x c a t e = let g = won_row w c t.row e in rw (t.was ∙ g.phase, e) refl

-- two replies of one call don't stand for two events
pub stand_apart : (f : ℕ) → IsFirstCapacity f → (s : List Event) (x : Event) (b : List Event) (y : Event) (d : List Event) (n : ℕ) (c e : Call) (a k : Answer) (r q : Finished) → acts (after f s) x ≡ Some (Goes c a) → c.number ≡ n → acts (after f (s ++ x ∷ b)) y ≡ Some (Goes e k) → e.number ≡ n → fate (after f s) (x ∷ (b ++ y ∷ d)) n ≡ fate (after f (s ++ x ∷ b)) (y ∷ d) n → Standing (after f s) x (b ++ y ∷ d) c a r → Standing (after f (s ++ x ∷ b)) y d e k q → ⊥
stand_apart f i s x b y d n c e a k r q h m g o fe (unfinished v u w z p) (unfinished v2 u2 w2 z2 p2) = moment_once f i (ReplyPlaced 0) s x b y n c e a k h m (won_moment (after f s) x c a (took_after f s x c a h) w) g o (won_moment (after f (s ++ x ∷ b)) y e k (took_after f (s ++ x ∷ b) y e k g) w2) refl
stand_apart f i s x b y d n c e a k r q h m g o fe (unfinished v u w z p) (finished u2 w2 z2) = let l1 : fate (after f s) (x ∷ (b ++ y ∷ d)) n ≡ None = rw m at u in let l2 : fate (after f (s ++ x ∷ b)) (y ∷ d) n ≡ Some q = rw o at u2 in absurd (let z : None ≡ Some q = sym l1 ∙ (fe ∙ l2) in cc)
stand_apart f i s x b y d n c e a k r q h m g o fe (finished u w z) (unfinished v2 u2 w2 z2 p2) = let l1 : fate (after f s) (x ∷ (b ++ y ∷ d)) n ≡ Some r = rw m at u in let l2 : fate (after f (s ++ x ∷ b)) (y ∷ d) n ≡ None = rw o at u2 in absurd (let z : Some r ≡ None = sym l1 ∙ (fe ∙ l2) in cc)
stand_apart f i s x b y d n c e a k r q h m g o fe (finished u w z) (finished u2 w2 z2) =
    let l1 : fate (after f s) (x ∷ (b ++ y ∷ d)) n ≡ Some r = subst (λ n. fate (after f s) (x ∷ (b ++ y ∷ d)) n ≡ Some r) m u in
    let l2 : fate (after f (s ++ x ∷ b)) (y ∷ d) n ≡ Some q = subst (λ n. fate (after f (s ++ x ∷ b)) (y ∷ d) n ≡ Some q) o u2 in
    let same : r ≡ q = (let z : Some r ≡ Some q = sym l1 ∙ (fe ∙ l2) in cc) in
    let w3 : is_moment r.reply e.state.phase k ≡ true = ap (λ (z : Finished). is_moment z.reply e.state.phase k) same ∙ w2 in
    apart_moments f i r.reply s x b y d n c e a k h m w g o w3 (λ v. subst (λ n. has_later may_be_refused (after f (s ++ x ∷ [])) (b ++ y ∷ d) n ≡ false) m (subst (λ w. has_later may_be_refused w (b ++ y ∷ d) c.number ≡ false) (sym (after_snoc f s x)) (z v)))

pub fate_later : (f : ℕ) → IsFirstCapacity f → (s b : List Event) (y : Event) (d : List Event) (n : ℕ) (e : Call) (k : Answer) → acts (after f (s ++ b)) y ≡ Some (Goes e k) → e.number ≡ n → fate (after f s) (b ++ y ∷ d) n ≡ fate (after f (s ++ b)) (y ∷ d) n
fate_later f i s b y d n e k h m =
    let u : fate (after f s) b n ≡ None = acts_untold f i s b n y e k h m in
    ap (λ l. find (λ (r2 : Finished). r2.call == n) l) (replies_append b (y ∷ d) (after f s)) ∙ (find_append_none n (replies (after f s) b) (replies (run (after f s) b) (y ∷ d)) u ∙ ap (λ w. fate w (y ∷ d) n) (run_after f s b))

pub apart_items : (f : ℕ) → IsFirstCapacity f → (s : List Event) (x : Event) (xs : List Event) (n : ℕ) (r q : Finished) → StandsFor (after f s) x xs r → r.call ≡ n → InHistory (after f (s ++ x ∷ [])) xs q → q.call ≡ n → ⊥
apart_items f i s x xs n r q a e g h =
    let w : run (after f (s ++ x ∷ [])) g.before ≡ after f (s ++ x ∷ g.before) = run_after f (s ++ x ∷ []) g.before ∙ ap (after f) (append_assoc s (x ∷ []) g.before) in
    let k : StandsFor (after f (s ++ x ∷ g.before)) g.event g.rest q = subst (λ z. StandsFor z g.event g.rest q) w g.stands in
    let b : StandsFor (after f s) x (g.before ++ g.event ∷ g.rest) r = subst (λ z. StandsFor (after f s) x z r) g.split a in
    let m : k.call.number ≡ n = sym k.number ∙ h in
    stand_apart f i s x g.before g.event g.rest n b.call k.call b.found k.found r q b.taken (sym b.number ∙ e) k.taken m (fate_later f i s (x ∷ g.before) g.event g.rest n k.call k.found k.taken m) b.stands k.stands

pub once_at : (f : ℕ) → IsFirstCapacity f → (n : ℕ) (x : Event) (xs s : List Event) → (counts n (history_at (after f s) x xs (acts (after f s) x)) ≡ 0) ⊎ ((r : Finished) × Is r (history_at (after f s) x xs (acts (after f s) x)) × (r.call ≡ n)) → (counts n (history (happens (after f s) x) xs) ≡ 0) ⊎ ((r : Finished) × Is r (history (happens (after f s) x) xs) × (r.call ≡ n)) → counts n (history (after f (s ++ x ∷ [])) xs) ≤ 1 → counts n (history_at (after f s) x xs (acts (after f s) x)) + counts n (history (happens (after f s) x) xs) ≤ 1
once_at f i n x xs s (inl z) b h = let k : counts n (history (happens (after f s) x) xs) ≤ 1 = rw (after_snoc f s x) at h in omega arith
once_at f i n x xs s (inr z) (inl b) h = omega (arith, count_few n (history_at (after f s) x xs (acts (after f s) x)), few_at (after f s) x xs (acts (after f s) x))
once_at f i n x xs s (inr z) (inr b) h =
    let g : InHistory (happens (after f s) x) xs b.0 = in_history xs (happens (after f s) x) b.0 b.1 in
    let k : InHistory (after f (s ++ x ∷ [])) xs b.0 = subst (λ w. InHistory w xs b.0) (sym (after_snoc f s x)) g in
    absurd (apart_items f i s x xs n z.0 b.0 (stands_for (after f s) x xs z.0 (acts (after f s) x) refl z.1) z.2 k b.2)

pub once_from : (f : ℕ) → IsFirstCapacity f → (n : ℕ) (es s : List Event) → counts n (history (after f s) es) ≤ 1
once_from f i n [] s = omega arith
once_from f i n (x ∷ xs) s = rw weigh-append (once_at f i n x xs s (count_none n (history_at (after f s) x xs (acts (after f s) x))) (count_none n (history (happens (after f s) x) xs)) (once_from f i n xs (s ++ x ∷ [])))

-- Nothing else stands in it

pub find_is_at : (n : ℕ) (x : Finished) (rs : List Finished) (r : Finished) (b : Bool) → (x.call == n) ≡ b → (if b then Some x else find (λ (r : Finished). r.call == n) rs) ≡ Some r → (find (λ (r : Finished). r.call == n) rs ≡ Some r → Is r rs) → Is r (x ∷ rs)
find_is_at n x rs r true e h k = inl (cc)
find_is_at n x rs r false e h k = inr (k h)

pub find_is : (n : ℕ) (rs : List Finished) (r : Finished) → find (λ (r : Finished). r.call == n) rs ≡ Some r → Is r rs
find_is n [] r h = absurd (cc)
find_is n (x ∷ rs) r h = find_is_at n x rs r (x.call == n) refl h (find_is n rs r)

abbrev HasValue : Option ℕ → Call → Type 0
HasValue v c = c.value ≡ v

pub value_kept : (v : Option ℕ) → Kept (HasValue v)
value_kept v w c p x a r ls t q row e f h = h

pub has_placed : (f : ℕ) → IsFirstCapacity f → (b : List Event) (x : Event) (d : List Event) (c : Call) (a : Answer) (v : ℕ) → acts (after f b) x ≡ Some (Goes c a) → a ≡ Won → c.value ≡ Some v → fate (after f b) (x ∷ d) c.number ≡ None → HasPlaced f (b ++ x ∷ d) (record { call = c.number; reply = ReplyPlaced v })
has_placed f i b x d c a v h w k u =
    let t = took_after f b x c a h in
    let j : Has (HasValue (Some v)) (after f (b ++ x ∷ [])) c.number = rw t.after (record { at = t.at; call = left c t.state t.list; there = get-set_same (after f b).calls t.at c (left c t.state t.list) t.there; number = refl; holds = k }) in
    let g : Has (HasValue (Some v)) (after f ((b ++ x ∷ []) ++ d)) c.number = has_after (HasValue (Some v)) (value_kept (Some v)) f i (b ++ x ∷ []) d c.number j in
    let m : Has (HasValue (Some v)) (after f (b ++ x ∷ d)) c.number = subst (λ z. Has (HasValue (Some v)) (after f z) c.number) (append_assoc b (x ∷ []) d) g in
    record {
      own = subst (λ n. IsOwn f (b ++ x ∷ d) (record { call = n; reply = ReplyPlaced v })) m.number (placed_own f (b ++ x ∷ d) m.at m.call v m.there m.holds);
      value = v;
      reply = refl;
      placed = (
          let pv : placed_by (acts (after f b) x) ≡ v ∷ [] = ap placed_by h ∙ (ap (λ z. placed_by (Some (Goes c z))) w ∙ ap option_to_list k) in
          let al : placed (empty f) (b ++ x ∷ d) ≡ placed (empty f) b ++ (placed_by (acts (after f b) x) ++ placed (happens (after f b) x) d) = placed_append b (x ∷ d) (empty f) in
          contains_of (placed (empty f) (b ++ x ∷ d)) v (rw (al, pv) (is_right v (placed (empty f) b) _ (inl refl))));
      unfinished = fate_later f i [] b x d c.number c a h refl ∙ u;
    }

pub only_at : (f : ℕ) → IsFirstCapacity f → (s : List Event) (r : Finished) (b : List Event) (x : Event) (d : List Event) → s ≡ b ++ x ∷ d → (c : Call) (a : Answer) → acts (after f b) x ≡ Some (Goes c a) → Standing (after f b) x d c a r → Contains (replies (empty f) s) r ⊎ HasPlaced f s r
only_at f i s r b x d e c a h (unfinished v u w k m) = inr (rw (e, m) (has_placed f i b x d c a v h w k u))
only_at f i s r b x d e c a h (finished u k m) = inl (contains_of (replies (empty f) s) r (
    let z : Is r (replies (empty f) b ++ replies (after f b) (x ∷ d)) = is_right r (replies (empty f) b) _ (find_is c.number (replies (after f b) (x ∷ d)) r u) in
    subst (λ z. Is r (replies (empty f) z)) (sym e) (subst (λ z. Is r z) (sym (replies_append b (x ∷ d) (empty f))) z)))

pub only_stands : (f : ℕ) → IsFirstCapacity f → (s : List Event) (r : Finished) → Contains (history (empty f) s) r → Contains (replies (empty f) s) r ⊎ HasPlaced f s r
only_stands f i s r c =
    let g = in_history s (empty f) r (in_of (history (empty f) s) r c) in
    only_at f i s r g.before g.event g.rest g.split g.stands.call g.stands.found g.stands.taken g.stands.stands

-- Order

pub record InPart (w : World) (m es : List Event) (r : Finished) : Type 0 where
  pub before : List Event
  pub event : Event
  pub rest : List Event
  pub split : m ≡ before ++ event ∷ rest
  pub stands : StandsFor (run w before) event (rest ++ es) r

abbrev IsThere : Call → Type 0
IsThere c = Unit {0}

pub there_kept : Kept IsThere
there_kept w c p x a r ls t q row e f h = tt

begun_before : (f : ℕ) → IsFirstCapacity f → (b : List Event) (x : Event) (d : List Event) (c : Call) (a : Answer) → acts (after f b) x ≡ Some (Goes c a) → HasBegun f (b ++ x ∷ d) c.number
begun_before f i b x d c a h =
    let t = took_after f b x c a h in
    let m : Has IsThere (after f (b ++ x ∷ d)) c.number = has_after IsThere there_kept f i b (x ∷ d) c.number (record { at = t.at; call = c; there = t.there; number = refl; holds = tt }) in
    let k = all_began f (b ++ x ∷ d) m.at m.call m.there in
    subst (λ n. HasBegun f (b ++ x ∷ d) n) m.number (k.start, k.once)

pub in_part : (m es : List Event) (w : World) (r : Finished) → Is r (part w m es) → InPart w m es r
in_part [] es w r i = absurd i
in_part (x ∷ m) es w r i = elim (is_either r (history_at w x (m ++ es) (acts w x)) (part (happens w x) m es) i) [
  | inl k ↦ record { before = []; event = x; rest = m; split = refl; stands = stands_for w x (m ++ es) r (acts w x) refl k }
  | inr k ↦ (let h = in_part m es (happens w x) r k in record { before = x ∷ h.before; event = h.event; rest = h.rest; split = ap (λ l. x ∷ l) h.split; stands = h.stands })
]

pub part_begun : (f : ℕ) → IsFirstCapacity f → (s more : List Event) (r : Finished) → Contains (part (empty f) s more) r → HasBegun f s r.call
part_begun f i s more r c =
    let g = in_part s more (empty f) r (in_of (part (empty f) s more) r c) in
    let z = begun_before f i g.before g.event g.rest g.stands.call g.stands.found g.stands.taken in
    subst (λ n. HasBegun f s n) (sym g.stands.number) (subst (λ e. HasBegun f e g.stands.call.number) (sym g.split) z)

pub fate_prefix_at : (n : ℕ) (x : Finished) (xs ys : List Finished) (b : Bool) → (x.call == n) ≡ b → (if b then Some x else find (λ (r : Finished). r.call == n) (xs ++ ys)) ≡ None → (find (λ (r : Finished). r.call == n) (xs ++ ys) ≡ None → find (λ (r : Finished). r.call == n) xs ≡ None) → (if b then Some x else find (λ (r : Finished). r.call == n) xs) ≡ None
fate_prefix_at n x xs ys true e h k = absurd (cc)
fate_prefix_at n x xs ys false e h k = k h

pub fate_prefix : (n : ℕ) (xs ys : List Finished) → find (λ (r : Finished). r.call == n) (xs ++ ys) ≡ None → find (λ (r : Finished). r.call == n) xs ≡ None
fate_prefix n [] ys h = refl
fate_prefix n (x ∷ xs) ys h = fate_prefix_at n x xs ys (x.call == n) refl h (fate_prefix n xs ys)

pub rest_unfinished : (f : ℕ) → IsFirstCapacity f → (s more : List Event) (r : Finished) → Contains (history (after f s) more) r → fate (empty f) s r.call ≡ None
rest_unfinished f i s more r c =
    let g = in_history more (after f s) r (in_of (history (after f s) more) r c) in
    let w : acts (after f (s ++ g.before)) g.event ≡ Some (Goes g.stands.call g.stands.found) = rw (run_after f s g.before) at g.stands.taken in
    let u : fate (empty f) (s ++ g.before) g.stands.call.number ≡ None = acts_untold f i [] (s ++ g.before) g.stands.call.number g.event g.stands.call g.stands.found w refl in
    let v : find (λ (q : Finished). q.call == g.stands.call.number) (replies (empty f) s ++ replies (after f s) g.before) ≡ None = ap (λ l. find (λ (q : Finished). q.call == g.stands.call.number) l) (sym (replies_append s g.before (empty f))) ∙ u in
    let z : fate (empty f) s g.stands.call.number ≡ None = fate_prefix g.stands.call.number (replies (empty f) s) (replies (after f s) g.before) v in
    subst (λ n. fate (empty f) s n ≡ None) (sym g.stands.number) z

-- What stands in it is its call's own

reply_own : (f : ℕ) → IsFirstCapacity f → (b : List Event) (x : Event) (d : List Event) (r : Finished) → finishes (after f b) x ≡ Some r → IsOwn f (b ++ x ∷ d) r
reply_own f i b x d r h =
    let q = replied f b x r h in
    let t = took_after f b x q.call q.found q.taken in
    let k = has_after IsThere there_kept f i b (x ∷ d) r.call (record { at = t.at; call = q.call; there = t.there; number = q.number; holds = tt }) in
    own_later f b (x ∷ d) r k.at k.call k.there k.number (own_answers f (inv f i) b x r h).own

own_stands : (f : ℕ) → IsFirstCapacity f → (s : List Event) (r : Finished) → Contains (history (empty f) s) r → IsOwn f s r
own_stands f i s r c = elim (only_stands f i s r c) [
  | inl k ↦ (let g = in_replies s (empty f) r (in_of (replies (empty f) s) r k) in subst (λ z. IsOwn f z r) (sym g.split) (reply_own f i g.before g.event g.rest r g.reply))
  | inr k ↦ k.own
]

-- The theorems

pub one_history : (l : Law) (f : ℕ) (s : List Event) → IsFirstCapacity f → OneHistory l f s
one_history l f s i u = record {
  run = runs_from l f i s [] u;
  each = each_stands l f i s u;
  once = λ n. omega (arith, once_from f i n s [], count_by-ifs (λ (r : Finished). r.call == n) (history (empty f) s));
  only = only_stands f i s;
  own = own_stands f i s;
}

pub in_order : (f : ℕ) (s more : List Event) → IsFirstCapacity f → InOrder f s more
in_order f s more i = record {
  before = part (empty f) s more;
  split = history_split s more (empty f);
  begun = part_begun f i s more;
  unfinished = rest_unfinished f i s more;
}
