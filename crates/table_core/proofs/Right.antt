-- Each finished insert and look-up is right at one moment of its span.
use Rattle.std.proofs.Common.{eqb-true, ℕ, ◌≡◌, ◌+◌, ◌-◌, ◌≤◌, ◌++◌, inl, inr, List, [], ◌∷◌, Bool, true, false, refl, Option, Some, None, length, sym, subst, ap, arith, ◌∙◌}
use Rattle.std.specs.Prelude.{◌==◌, if◌then◌else◌, option_to_list, nat_lt}
use Rattle.std.specs.List.{slice_get}
use Rattle.table_core.proofs.Weights.{weigh}
use Rattle.table_core.specs.Replies.{Reply, ReplyPlaced, ReplyFound, ReplyRefused, ReplySome, ReplyNone, ReplyLen, ReplyWalk, Finished}
use Rattle.table_core.specs.Generations.{Gen, Table, bucket, last_of, current, gen_of, bucket_in, is_current}
use Rattle.table_terms.specs.Probes.{bucket_at}
use Rattle.table_terms.specs.Capacities.{IsFirstCapacity}
use Rattle.table_core.specs.Phases.{stands}
use Rattle.table_core.specs.Calls.{Call, starts}
use Rattle.table_core.specs.Machine.{World, empty, walked_gen, bucket_of, refused, found_entry, reply_of_outcome, Act, Goes, acts, finished_call, run, after}
use Rattle.table_core.specs.History.{replies, placed_by, placed, TakenEvent, answers_so}
use Rattle.table_core.specs.Steps.{Row, loads_none, loads, reads_empty, meets, memory_refused, puts, loses_meets, adds, leaves_refused, small, fails_first, fails_largest, fails_refused, ends, ends_failed, gives_up, looks_none, looks, look_empty, look_meets, look_turns, look_turns_unasked, look_goes_on, look_goes_on_unasked, len_none, len_loads, len_size, walk_none, walk_loads, walk_skips_last, walk_takes_last, Opens, opens_insert, opens_lookup, opens_len, opens_walk, left}
use Rattle.table_core.specs.declared.event.Event.{Event}
use Rattle.table_core.specs.declared.event.Event.TheVariants.{Free, Load, Read, Put, Add, Size, Check}
use Rattle.table_core.specs.declared.generation.Entry.{Entry}
use Rattle.table_core.specs.declared.call.CallState.{CallState}
use Rattle.table_core.specs.declared.call.Phase.{Phase}
use Rattle.table_core.specs.declared.call.Phase.TheVariants.{Shared, Probe, AtEmpty, Placed, LeaveOk, LeaveRefused, AskSize, Owned, Building, LeaveOwned, LeaveFailed, LookLoad, LookProbe, LenLoad, WalkLoad, Done}
use Rattle.table_core.specs.declared.call.Outcome.{Outcome}
use Rattle.table_core.specs.declared.call.Outcome.TheVariants.{Pending, New, Existing}
use Rattle.table_core.specs.declared.call.Answer.{Answer}
use Rattle.table_core.specs.declared.call.Answer.TheVariants.{NoGeneration, Loaded, Empty, Holds, Won, MemoryRefused, Failed}
use Rattle.table_core.proofs.Lists.{weigh-get, get-set, get-push}
use Rattle.table_core.proofs.Locks.{Locked, owners, builders, is_owning, is_building}
use Rattle.std.specs.Prelude.{Contains}
use Rattle.std.proofs.lemmas.Bool.{ltb-false, eq-eqb, eqb-true}
use Rattle.std.specs.Option.{is_some}
use Rattle.table_core.specs.ListObject.{AcceptsNone, Answers}
use Rattle.table_core.specs.Law.{Law, UsesBy, ActsBy, IsLawful}
use Rattle.table_core.specs.Law.{accepts}
use Rattle.table_core.specs.Values.{Ends, entry_named}
use Rattle.table_core.specs.Bound.{one_if}
use Rattle.table_core.specs.Lists.{asked, is_list_reply, is_refusal, is_moment, may_be_refused, Meets, IsRight}
use Rattle.table_core.proofs.Locks.{le_one}
use Rattle.table_core.proofs.Turns.{Turn, rests, opens, takes}
use Rattle.table_core.proofs.Pasts.{append-none, turn_after, placed_snoc, by_snoc, taken_now, taken_later, after_taken, later_snoc}
use Rattle.table_core.proofs.Standing.{pending_of, gens_stay}
use Rattle.table_core.proofs.Facts.{values, In, Holding, Within, AllGrew, probing, Probing, wants_growth, Met, Tracked, is_asking, LawOk, in_table, Numbered}
use Rattle.table_core.proofs.Contents.{in_bucket, bucket_none, bucket_some, row_grew, fit_at, same_grew}
use Rattle.table_core.proofs.Places.{by_class, no_value}
use Rattle.table_core.proofs.Tracks.{load_outcome}
use Rattle.table_core.proofs.Lawful.{accepted_at, refused_by, declined, differing, missed_more, misses_at_empty, misses_at_turn, none_placed, fresh_value, same_entry, same_gen, same_walk, entry_stays, lawful_before, lawful_then, law_after, none_passes}
use Rattle.table_core.proofs.Members.{none_in, counted, contains_of}
use Rattle.table_core.proofs.Invariant.{InvAfter, inv}
use Rattle.std.proofs.lemmas.Bool.{false_from_ne_true, and_right}

abbrev pub say : ℕ → Reply → Finished
say n t = record { call = n; reply = t }

-- What the list object answers

pub answer_none : (l : Law) (m : List ℕ) (n : ℕ) → AcceptsNone (l.test n) m → Answers l.equal m (asked l (say n ReplyNone)) ReplyNone (m ++ [])
answer_none l m n h = (h, append-none m)

pub answer_some : (l : Law) (m : List ℕ) (n e : ℕ) → Contains m e → l.test n e ≡ true → Answers l.equal m (asked l (say n (ReplySome e))) (ReplySome e) (m ++ [])
answer_some l m n e c h = ((c, h), append-none m)

pub answer_found : (l : Law) (m : List ℕ) (n e v : ℕ) → Contains m e → l.equal v e ≡ true → Answers l.equal m (asked l (say n (ReplyFound e v))) (ReplyFound e v) (m ++ [])
answer_found l m n e v c h = ((c, h), refl, append-none m)

pub answer_refused : (l : Law) (m : List ℕ) (n v : ℕ) → AcceptsNone (l.equal v) m → Answers l.equal m (asked l (say n (ReplyRefused v))) (ReplyRefused v) (m ++ [])
answer_refused l m n v h = (h, refl, append-none m)

pub answer_placed : (l : Law) (m : List ℕ) (n v : ℕ) → AcceptsNone (l.equal v) m → Answers l.equal m (asked l (say n (ReplyPlaced v))) (ReplyPlaced v) (m ++ v ∷ [])
answer_placed l m n v h = (h, refl, refl)

-- Moments

-- an event that is a reply's moment
pub right_here : (l : Law) (f : ℕ) (s : List Event) (x : Event) (r : Finished) (c : Call) (a : Answer) → acts (after f s) x ≡ Some (Goes c a) → c.number ≡ r.call → is_moment r.reply c.state.phase a ≡ true → Meets r.reply (bucket_of (after f s).table c.state) → Answers l.equal (placed (empty f) s) (asked l r) r.reply (placed (empty f) s ++ placed_by (Some (Goes c a))) → IsRight l f (s ++ x ∷ []) r
right_here l f s x r c a h e m b w = record {
  at = taken_now f s x r.call c a h e;
  moment = m;
  last = λ q. refl;
  meets = b;
  answer = (let z : placed (empty f) (s ++ x ∷ []) ≡ placed (empty f) s ++ placed_by (Some (Goes c a)) = placed_snoc f s x ∙ ap (λ o. placed (empty f) s ++ placed_by o) h in subst (λ n. Answers l.equal (placed (empty f) s) (asked l r) r.reply n) (sym z) w);
}

-- a moment stays the reply's, unless the call may be refused once more
pub right_later : (l : Law) (f : ℕ) (s : List Event) (x : Event) (r : Finished) → (is_refusal r.reply ≡ true → answers_so may_be_refused (acts (after f s) x) r.call ≡ false) → IsRight l f s r → IsRight l f (s ++ x ∷ []) r
right_later l f s x r u k = record {
  at = taken_later f s r.call k.at x;
  moment = k.moment;
  last = λ q.
      let w : World = after f (k.at.before ++ k.at.event ∷ []) in
      let z : acts (run w k.at.rest) x ≡ acts (after f s) x = ap (λ v. acts v x) (after_taken f s r.call k.at) in
      let a : answers_so may_be_refused (acts (run w k.at.rest) x) r.call ≡ false = ap (λ o. answers_so may_be_refused o r.call) z ∙ u q in
      later_snoc may_be_refused w k.at.rest x r.call ∙ rw (k.last q, a) refl;
  meets = k.meets;
  answer = k.answer;
}

pub no_refusal : (b : Bool) → false ≡ true → b ≡ false
no_refusal b h = absurd (cc)

-- Where the values that a call meets are

pub weigh-in : (h : Entry → ℕ) (e : Entry) (es : List Entry) → In e es → h e ≤ weigh h es
weigh-in h e [] i = absurd i
weigh-in h e (x ∷ xs) (inl q) = omega (arith, ap h q)
weigh-in h e (x ∷ xs) (inr i) = omega (arith, weigh-in h e xs i)

-- an entry's value was placed
pub entry_placed : (w : World) (m : List ℕ) (k : ℕ) (g : Gen) (e : Entry) → Within w m → slice_get w.table.gens k ≡ Some g → In e g.entries → Contains m e.value
entry_placed w m k g e v h i =
    let q : (e.value == e.value) ≡ true = eq-eqb e.value e.value refl in
    let a : (if e.value == e.value then 1 else 0) ≤ values (λ x. if x == e.value then 1 else 0) g.entries = weigh-in (λ d. if d.value == e.value then 1 else 0) e g.entries i in
    let b : 1 ≤ values (λ x. if x == e.value then 1 else 0) g.entries = rw q at a in
    contains_of m e.value (counted e.value m (omega (arith, v.each k g h (λ x. if x == e.value then 1 else 0))))

pub bucket_placed : (w : World) (m : List ℕ) (c : Call) (e : Entry) → Within w m → Probing w.table.gens c → bucket_of w.table c.state ≡ Some e → Contains m e.value
bucket_placed w m c e v p b = entry_placed w m p.number p.gen e v p.got (in_bucket e p.gen.entries c.state.index (bucket_some w.table c.state p.number p.gen e p.walked p.got b))

-- What a call will be told

-- a look-up has loaded a generation that holds all that was placed then
pub record LookedAt (f : ℕ) (s : List Event) (gens : List Gen) (c : Call) : Type 0 where
  pub at : TakenEvent f s c.number
  pub load : at.call.state.phase ≡ LookLoad
  pub same : placed (empty f) (at.before ++ at.event ∷ []) ≡ placed (empty f) at.before
  pub bound : (k : ℕ) (g : Gen) → c.state.walked ≡ Some k → slice_get gens k ≡ Some g → (h : ℕ → ℕ) → weigh h (placed (empty f) at.before) ≤ values h g.entries

-- a call that is refused if its next release ends it
abbrev pub may_refuse : Phase → Outcome → Bool → Bool
may_refuse AtEmpty o b = true
may_refuse LeaveRefused o b = true
may_refuse LeaveFailed Pending true = true
may_refuse _ o b = false

pub record Fated (l : Law) (f : ℕ) (s : List Event) (gens : List Gen) (c : Call) : Type 0 where
  pub placed : (v : ℕ) → c.value ≡ Some v → in_table c.state.phase c.state.outcome ≡ true → IsRight l f s (say c.number (ReplyPlaced v))
  pub found : (v i : ℕ) (e : Entry) → c.value ≡ Some v → c.state.outcome ≡ Existing i → bucket_in (gen_of gens c.state.walked) i ≡ Some e → IsRight l f s (say c.number (ReplyFound e.value v))
  pub refused : (v : ℕ) → c.value ≡ Some v → may_refuse c.state.phase c.state.outcome (is_current gens c.state.walked) ≡ true → IsRight l f s (say c.number (ReplyRefused v))
  pub looked : c.state.phase ≡ LookProbe → LookedAt f s gens c

abbrev pub AllFated : Law → ℕ → List Event → World → Type 0
AllFated l f s w = (i : ℕ) (c : Call) → slice_get w.calls i ≡ Some c → Fated l f s w.table.gens c

-- Calls that another's turn leaves

pub looked_later : (f : ℕ) (s : List Event) (x : Event) (gens now : List Gen) (c : Call) (d : CallState) (ls : List ℕ) → d.walked ≡ c.state.walked → AllGrew gens now → Probing gens c → LookedAt f s gens c → LookedAt f (s ++ x ∷ []) now (left c d ls)
looked_later f s x gens now c d ls e g p k = record {
  at = taken_later f s c.number k.at x;
  load = k.load;
  same = k.same;
  bound = λ n h wa ge b.
      let wc : c.state.walked ≡ Some n = sym e ∙ wa in
      let i : p.number ≡ n = same_walk c.state.walked p.number n p.walked wc in
      let y : slice_get gens n ≡ Some p.gen = rw i at p.got in
      let z = g.each n p.gen y in
      let q : z.0 ≡ h = same_gen now n z.0 h z.1 ge in
      let m : values b p.gen.entries ≤ values b h.entries = rw q at (z.2.more b) in
      omega (arith, k.bound n p.gen wc y b);
}

pub current_same : (gens now : List Gen) (o : Option ℕ) → length now ≡ length gens → is_current now o ≡ is_current gens o
current_same gens now None e = rw e refl
current_same gens now (Some k) e = rw e refl

pub refuse_same : (p : Phase) (o : Outcome) (b c : Bool) → (p ≡ LeaveFailed → b ≡ c) → may_refuse p o b ≡ true → may_refuse p o c ≡ true
refuse_same AtEmpty o b c e h = refl
refuse_same LeaveRefused o b c e h = refl
refuse_same LeaveFailed o b c e h = rw (sym (e refl)) h
refuse_same _ o b c e h = absurd (cc)

-- the turn changes no generation's number while this call leaves a failed growth
pub fated_other : (l : Law) (f : ℕ) (s : List Event) (x : Event) (gens now : List Gen) (c : Call) → AllGrew gens now → Tracked gens c → answers_so may_be_refused (acts (after f s) x) c.number ≡ false → (c.state.phase ≡ LeaveFailed → length now ≡ length gens) → Fated l f s gens c → Fated l f (s ++ x ∷ []) now c
fated_other l f s x gens now c g t n e k = record {
  placed = λ v h y. right_later l f s x (say c.number (ReplyPlaced v)) (no_refusal _) (k.placed v h y);
  found = λ v i d h o b.
      let m = t.met.there i o in
      let q : m.0 ≡ d = same_entry m.0 d _ (entry_stays gens now c.state.walked i m.0 g m.1) b in
      rw (← q) (right_later l f s x (say c.number (ReplyFound m.0.value v)) (no_refusal _) (k.found v i m.0 h o m.1));
  refused = λ v h y. right_later l f s x (say c.number (ReplyRefused v)) (λ q. n) (k.refused v h (refuse_same c.state.phase c.state.outcome _ _ (λ q. current_same gens now c.state.walked (e q)) y));
  looked = λ h. looked_later f s x gens now c c.state c.list refl g (t.probes (ap probing h)) (k.looked h);
}

-- The call that takes its turn

pub not_try : (c : Call) (p : Phase) (a : Answer) (n : ℕ) → c.state.phase ≡ p → may_be_refused p a ≡ false → answers_so may_be_refused (Some (Goes c a)) n ≡ false
not_try c p a n e h = let z : may_be_refused c.state.phase a ≡ false = ap (λ q. may_be_refused q a) e ∙ h in rw z refl

pub value_none : (l : Law) (c : Call) (v : ℕ) (m : List ℕ) → c.value ≡ Some v → weigh (λ u. one_if (accepts l c u)) m ≡ 0 → AcceptsNone (l.equal v) m
value_none l c v m e z = none_in (l.equal v) m (rw e at z)

pub place_answer : (l : Law) (m : List ℕ) (c : Call) (v : ℕ) → c.value ≡ Some v → weigh (λ u. one_if (accepts l c u)) m ≡ 0 → Answers l.equal m (asked l (say c.number (ReplyPlaced v))) (ReplyPlaced v) (m ++ option_to_list c.value)
place_answer l m c v e z = subst (λ o. Answers l.equal m (asked l (say c.number (ReplyPlaced v))) (ReplyPlaced v) (m ++ option_to_list o)) (sym e) (answer_placed l m c.number v (value_none l c v m e z))

pub moment_placed : (v : ℕ) (p : Phase) → p ≡ AtEmpty → is_moment (ReplyPlaced v) p Won ≡ true
moment_placed v p e = rw e refl

pub moment_read : (e v : ℕ) (p : Phase) → p ≡ Probe → is_moment (ReplyFound e v) p (Holds true) ≡ true
moment_read e v p h = rw h refl

pub moment_put : (e v : ℕ) (p : Phase) → p ≡ AtEmpty → is_moment (ReplyFound e v) p (Holds true) ≡ true
moment_put e v p h = rw h refl

pub moment_look : (e : ℕ) (p : Phase) → p ≡ LookProbe → is_moment (ReplySome e) p (Holds true) ≡ true
moment_look e p h = rw h refl

pub meets_none : (t : Reply) (o : Option Entry) → entry_named t ≡ None → Meets t o
meets_none t o h e k = absurd (let z : None ≡ Some e = sym h ∙ k in cc)

pub later_placed : (l : Law) (f : ℕ) (s : List Event) (x : Event) (gens : List Gen) (c : Call) (b : Bool) → b ≡ in_table c.state.phase c.state.outcome → Fated l f s gens c → (v : ℕ) → c.value ≡ Some v → b ≡ true → IsRight l f (s ++ x ∷ []) (say c.number (ReplyPlaced v))
later_placed l f s x gens c b e k v h y = right_later l f s x (say c.number (ReplyPlaced v)) (no_refusal _) (k.placed v h (sym e ∙ y))

abbrev Here : Law → ℕ → List Event → Event → Call → Answer → ℕ → Type 0
Here l f s x c a i = (acts (after f s) x ≡ Some (Goes c a)) × (slice_get (after f s).calls i ≡ Some c)

-- the class of a call before its turn
pub class_at : (c : Call) (p : Phase) (b : Bool) → c.state.phase ≡ p → b ≡ in_table p c.state.outcome → b ≡ in_table c.state.phase c.state.outcome
class_at c p b e h = h ∙ ap (λ z. in_table z c.state.outcome) (sym e)

pub placed_row : (l : Law) (f : ℕ) (s : List Event) (i : ℕ) (c : Call) {p : Phase} {x : Event} {a : Answer} {r : CallState} {ls : List ℕ} {t : Table} {q : Option Reply} → Row (after f s) c p x a r ls t q → Here l f s x c a i → c.state.phase ≡ p → InvAfter f s → LawOk l (after f s) → Fated l f s (after f s).table.gens c → (v : ℕ) → c.value ≡ Some v → in_table r.phase r.outcome ≡ true → IsRight l f (s ++ x ∷ []) (say c.number (ReplyPlaced v))
placed_row l f s i c (puts n y b) h e iv o k v w z = right_here l f s (Put n y true) (say c.number (ReplyPlaced v)) c Won h.0 refl (moment_placed v c.state.phase e) (meets_none (ReplyPlaced v) _ refl) (place_answer l (placed (empty f) s) c v w (fresh_value l (after f s) (placed (empty f) s) (replies (empty f) s) i c h.1 b (ap probing e) (ap stands e) (ap is_asking e) iv o))
placed_row l f s i c (meets n y d b u) h e iv o k v w z = later_placed l f s (Read n y) (after f s).table.gens c _ (class_at c Probe _ e (by_class Probe LeaveOk (λ _. Existing c.state.index) (refl, λ i. refl, λ i. refl, refl, λ i. refl, λ i. refl) (is_some c.value) c.state.outcome (fit_at c _ _ (iv.calls.at i c h.1) e))) k v w z
placed_row l f s i c (loses_meets n y d b u) h e iv o k v w z = later_placed l f s (Put n y true) (after f s).table.gens c _ (class_at c AtEmpty _ e (by_class AtEmpty LeaveOk (λ _. Existing c.state.index) (refl, λ i. refl, λ i. refl, refl, λ i. refl, λ i. refl) (is_some c.value) c.state.outcome (fit_at c _ _ (iv.calls.at i c h.1) e))) k v w z
placed_row l f s i c (adds n) h e iv o k v w z = later_placed l f s (Add n) (after f s).table.gens c _ (class_at c Placed _ e (by_class Placed LeaveOk (λ _. New c.state.index) (refl, λ i. refl, λ i. refl, refl, λ i. refl, λ i. refl) (is_some c.value) c.state.outcome (fit_at c _ _ (iv.calls.at i c h.1) e))) k v w z
placed_row l f s i c (look_meets n y d b u) h e iv o k v w z = later_placed l f s (Read n y) (after f s).table.gens c _ (class_at c LookProbe _ e (by_class LookProbe Done (λ _. Existing c.state.index) (refl, λ i. refl, λ i. refl, refl, λ i. refl, λ i. refl) (is_some c.value) c.state.outcome (fit_at c _ _ (iv.calls.at i c h.1) e))) k v w z
placed_row l f s i c {p = p} {x = x} {r = r} _ h e iv o k v w z = later_placed l f s x (after f s).table.gens c _ (class_at c p _ e (by_class p r.phase (λ o. o) (refl, λ i. refl, λ i. refl, refl, λ i. refl, λ i. refl) (is_some c.value) c.state.outcome (fit_at c _ _ (iv.calls.at i c h.1) e))) k v w z

-- an entry that this very event accepts
pub found_now : (l : Law) (f : ℕ) (s : List Event) (x : Event) (i : ℕ) (c : Call) (d : Entry) → Here l f s x c (Holds true) i → probing c.state.phase ≡ true → InvAfter f s → bucket_of (after f s).table c.state ≡ Some d → accepts l c d.value ≡ true → ((v : ℕ) → is_moment (ReplyFound d.value v) c.state.phase (Holds true) ≡ true) → (v j : ℕ) (e : Entry) → c.value ≡ Some v → Existing c.state.index ≡ Existing j → bucket_in (gen_of (after f s).table.gens c.state.walked) j ≡ Some e → IsRight l f (s ++ x ∷ []) (say c.number (ReplyFound e.value v))
found_now l f s x i c d h pr iv at ac mo v j e w o k =
    let q : c.state.index ≡ j = cc in
    let z : bucket_in (gen_of (after f s).table.gens c.state.walked) j ≡ Some d = rw (← q) at in
    let u : d ≡ e = same_entry d e _ z k in
    let eq : l.equal v d.value ≡ true = rw w at ac in
    let r : IsRight l f (s ++ x ∷ []) (say c.number (ReplyFound d.value v)) = right_here l f s x (say c.number (ReplyFound d.value v)) c (Holds true) h.0 refl (mo v) (λ n g. (d, at, (let t : d.value ≡ n = cc in t))) (answer_found l (placed (empty f) s) c.number d.value v (bucket_placed (after f s) (placed (empty f) s) c d iv.within ((iv.tracked.at i c h.1).probes pr) at) eq) in
    rw (← u) r

-- an entry that was accepted before
pub found_before : (l : Law) (f : ℕ) (s : List Event) (x : Event) (gens now : List Gen) (c : Call) → AllGrew gens now → Met gens c → Fated l f s gens c → (v j : ℕ) (e : Entry) → c.value ≡ Some v → c.state.outcome ≡ Existing j → bucket_in (gen_of now c.state.walked) j ≡ Some e → IsRight l f (s ++ x ∷ []) (say c.number (ReplyFound e.value v))
found_before l f s x gens now c g t k v j e w o b =
    let m = t.there j o in
    let q : m.0 ≡ e = same_entry m.0 e _ (entry_stays gens now c.state.walked j m.0 g m.1) b in
    rw (← q) (right_later l f s x (say c.number (ReplyFound m.0.value v)) (no_refusal _) (k.found v j m.0 w o m.1))

pub found_row : (l : Law) (f : ℕ) (s : List Event) (i : ℕ) (c : Call) {p : Phase} {x : Event} {a : Answer} {r : CallState} {ls : List ℕ} {t : Table} {q : Option Reply} → Row (after f s) c p x a r ls t q → AllGrew (after f s).table.gens t.gens → Here l f s x c a i → c.state.phase ≡ p → InvAfter f s → UsesBy l (after f s) c c.state.phase x → Fated l f s (after f s).table.gens c → (v j : ℕ) (e : Entry) → c.value ≡ Some v → r.outcome ≡ Existing j → bucket_in (gen_of t.gens r.walked) j ≡ Some e → IsRight l f (s ++ x ∷ []) (say c.number (ReplyFound e.value v))
found_row l f s i c (meets n y d b u) g h e iv fb k = found_now l f s (Read n y) i c d h (ap probing e) iv b (accepted_at l (after f s) c Probe (Read n y) d y e (λ x. x) b u fb) (λ v. moment_read d.value v c.state.phase e)
found_row l f s i c (loses_meets n y d b u) g h e iv fb k = found_now l f s (Put n y true) i c d h (ap probing e) iv b (accepted_at l (after f s) c AtEmpty (Put n y true) d y e (λ x. x) b u fb) (λ v. moment_put d.value v c.state.phase e)
found_row l f s i c (look_meets n y d b u) g h e iv fb k = λ v j d w o b. absurd (let z : c.value ≡ None = no_value LookProbe (refl, λ i. refl, λ i. refl, refl, λ i. refl, λ i. refl) c.value c.state.outcome (fit_at c _ _ (iv.calls.at i c h.1) e) in let q : Some v ≡ None = sym w ∙ z in cc)
found_row l f s i c (adds _) g h e iv fb k = λ v j d w o b. absurd (cc)
found_row l f s i c (loads _ _ _) g h e iv fb k = λ v j d w o b. absurd (load_outcome Shared (λ i. (refl, refl)) (is_some c.value) c.state.outcome (fit_at c _ _ (iv.calls.at i c h.1) e) j o)
found_row l f s i c (loads_none _ _) g h e iv fb k = λ v j d w o b. absurd (load_outcome Shared (λ i. (refl, refl)) (is_some c.value) c.state.outcome (fit_at c _ _ (iv.calls.at i c h.1) e) j o)
found_row l f s i c (looks _ _ _) g h e iv fb k = λ v j d w o b. absurd (load_outcome LookLoad (λ i. (refl, refl)) (is_some c.value) c.state.outcome (fit_at c _ _ (iv.calls.at i c h.1) e) j o)
found_row l f s i c (len_loads _ _ _) g h e iv fb k = λ v j d w o b. absurd (load_outcome LenLoad (λ i. (refl, refl)) (is_some c.value) c.state.outcome (fit_at c _ _ (iv.calls.at i c h.1) e) j o)
found_row l f s i c (walk_loads _ _ _) g h e iv fb k = λ v j d w o b. absurd (load_outcome WalkLoad (λ i. (refl, refl)) (is_some c.value) c.state.outcome (fit_at c _ _ (iv.calls.at i c h.1) e) j o)
found_row l f s i c {x = x} {t = t} _ g h e iv fb k = found_before l f s x (after f s).table.gens t.gens c g (iv.tracked.at i c h.1).met k

-- Refusals

pub refuses_pending : (o : Outcome) (b : Bool) → may_refuse LeaveFailed o b ≡ true → (o ≡ Pending) × (b ≡ true)
refuses_pending Pending true h = (refl, refl)
refuses_pending Pending false h = absurd (cc)
refuses_pending (New i) b h = absurd (cc)
refuses_pending (Existing i) b h = absurd (cc)

pub moment_empty : (v : ℕ) (p : Phase) → p ≡ Probe → is_moment (ReplyRefused v) p Empty ≡ true
moment_empty v p e = rw e refl

pub moment_failed : (v : ℕ) (p : Phase) → p ≡ Owned → is_moment (ReplyRefused v) p Failed ≡ true
moment_failed v p e = rw e refl

-- there is nothing yet
pub none_at_first : (l : Law) (w : World) (m : List ℕ) (c : Call) → current w.table ≡ None → Holding w.table m → weigh (λ u. one_if (accepts l c u)) m ≡ 0
none_at_first l w m c h o = let b : 0 ≡ weigh (λ u. one_if (accepts l c u)) m = rw h at (o.bag (λ u. one_if (accepts l c u))) in sym b

pub last_of_current : (gens : List Gen) (o : Option ℕ) (g : Gen) → last_of gens ≡ Some g → is_current gens o ≡ true → (k : ℕ) × (o ≡ Some k) × (slice_get gens k ≡ Some g)
last_of_current [] None g h e = absurd (cc)
last_of_current (y ∷ ys) None g h e = absurd (let z : length (y ∷ ys) ≡ 0 = eqb-true (length (y ∷ ys)) 0 e in omega arith)
last_of_current gens (Some k) g h e =
    let z : k + 1 ≡ length gens = eqb-true (k + 1) (length gens) e in
    let q : length gens - 1 ≡ k = omega arith in
    (k, refl, rw q at h)

-- a growth fails for a call that has seen every bucket of the current generation
pub none_at_failure : (l : Law) (f : ℕ) (s : List Event) (i : ℕ) (c : Call) (g : Gen) → slice_get (after f s).calls i ≡ Some c → c.state.phase ≡ Owned → c.state.outcome ≡ Pending → is_current (after f s).table.gens c.state.walked ≡ true → current (after f s).table ≡ Some g → InvAfter f s → LawOk l (after f s) → weigh (λ u. one_if (accepts l c u)) (placed (empty f) s) ≡ 0
none_at_failure l f s i c g gc e p cu h iv o =
    let q = last_of_current (after f s).table.gens c.state.walked g h cu in
    let j = o.calls i c gc in
    let w : wants_growth c.state.phase c.state.outcome ≡ true = rw (e, p) refl in
    none_placed l (after f s) (placed (empty f) s) c g h iv.holding (misses_at_turn l c g g.capacity (iv.seated.gens q.0 g q.2) (o.gens q.0 g q.2) (j.turned w q.0 g q.1 q.2) (j.hash (ap is_asking e)) (omega arith))

pub refused_now : (l : Law) (f : ℕ) (s : List Event) (x : Event) (c : Call) (a : Answer) (v : ℕ) → acts (after f s) x ≡ Some (Goes c a) → c.value ≡ Some v → is_moment (ReplyRefused v) c.state.phase a ≡ true → placed_by (Some (Goes c a)) ≡ [] → weigh (λ u. one_if (accepts l c u)) (placed (empty f) s) ≡ 0 → IsRight l f (s ++ x ∷ []) (say c.number (ReplyRefused v))
refused_now l f s x c a v h w m n z = right_here l f s x (say c.number (ReplyRefused v)) c a h refl m (meets_none (ReplyRefused v) _ refl) (subst (λ b. Answers l.equal (placed (empty f) s) (asked l (say c.number (ReplyRefused v))) (ReplyRefused v) (placed (empty f) s ++ b)) (sym n) (answer_refused l (placed (empty f) s) c.number v (value_none l c v (placed (empty f) s) w z)))

pub refused_failed : (l : Law) (f : ℕ) (s : List Event) (x : Event) (i : ℕ) (c : Call) (g : Gen) → current (after f s).table ≡ Some g → Here l f s x c Failed i → c.state.phase ≡ Owned → InvAfter f s → LawOk l (after f s) → (v : ℕ) → c.value ≡ Some v → may_refuse LeaveFailed c.state.outcome (is_current (after f s).table.gens c.state.walked) ≡ true → IsRight l f (s ++ x ∷ []) (say c.number (ReplyRefused v))
refused_failed l f s x i c g cu h e iv o v w z =
    let y = refuses_pending c.state.outcome _ z in
    refused_now l f s x c Failed v h.0 w (moment_failed v c.state.phase e) refl (none_at_failure l f s i c g h.1 e y.0 y.1 cu iv o)

pub refused_row : (l : Law) (f : ℕ) (s : List Event) (i : ℕ) (c : Call) {p : Phase} {x : Event} {a : Answer} {r : CallState} {ls : List ℕ} {t : Table} {q : Option Reply} → Row (after f s) c p x a r ls t q → Here l f s x c a i → c.state.phase ≡ p → InvAfter f s → LawOk l (after f s) → Fated l f s (after f s).table.gens c → (v : ℕ) → c.value ≡ Some v → may_refuse r.phase r.outcome (is_current t.gens r.walked) ≡ true → IsRight l f (s ++ x ∷ []) (say c.number (ReplyRefused v))
refused_row l f s i c (reads_empty n y b) h e iv o k v w z = refused_now l f s (Read n y) c Empty v h.0 w (moment_empty v c.state.phase e) refl (fresh_value l (after f s) (placed (empty f) s) (replies (empty f) s) i c h.1 b (ap probing e) (ap stands e) (ap is_asking e) iv o)
refused_row l f s i c (fails_first n b) h e iv o k v w z = refused_now l f s (Check n false) c Failed v h.0 w (moment_failed v c.state.phase e) refl (none_at_first l (after f s) (placed (empty f) s) c b iv.holding)
refused_row l f s i c (fails_largest n m g b y u) h e iv o k v w z = refused_failed l f s (Check n m) i c g b h e iv o v w z
refused_row l f s i c (fails_refused n g b y) h e iv o k v w z = refused_failed l f s (Check n false) i c g b h e iv o v w z
refused_row l f s i c (memory_refused n y) h e iv o k v w z = right_later l f s (Put n y false) (say c.number (ReplyRefused v)) (λ q. ap (λ z. answers_so may_be_refused z c.number) h.0 ∙ not_try c AtEmpty MemoryRefused c.number e refl) (k.refused v w (rw e refl))
refused_row l f s i c _ h e iv o k v w z = absurd (cc)

-- Look-ups

abbrev is_look_probe : Phase → Bool
is_look_probe LookProbe = true
is_look_probe _ = false

pub looked_row : (l : Law) (f : ℕ) (s : List Event) (i : ℕ) (c : Call) {p : Phase} {x : Event} {a : Answer} {r : CallState} {ls : List ℕ} {t : Table} {q : Option Reply} → Row (after f s) c p x a r ls t q → Here l f s x c a i → c.state.phase ≡ p → InvAfter f s → Fated l f s (after f s).table.gens c → r.phase ≡ LookProbe → LookedAt f (s ++ x ∷ []) t.gens (left c r ls)
looked_row l f s i c (looks n g b) h e iv k z = record {
  at = taken_now f s (Load n) c.number c (Loaded (length (after f s).table.gens - 1) g.capacity) h.0 refl;
  load = e;
  same = placed_snoc f s (Load n) ∙ (ap (λ o. placed (empty f) s ++ placed_by o) h.0 ∙ append-none (placed (empty f) s));
  bound = λ j d wa ge u.
      let q : length (after f s).table.gens - 1 ≡ j = cc in
      let y : slice_get (after f s).table.gens j ≡ Some g = rw q at b in
      let m : g ≡ d = same_gen (after f s).table.gens j g d y ge in
      let v : values u g.entries ≡ weigh u (placed (empty f) s) = rw b at (iv.holding.bag u) in
      let w : values u g.entries ≡ values u d.entries = ap (λ (z : Gen). values u z.entries) m in
      omega arith;
}
looked_row l f s i c (look_goes_on n y d b u lt) h e iv k z = looked_later f s (Read n y) (after f s).table.gens (after f s).table.gens c _ _ refl (same_grew (after f s).table.gens) ((iv.tracked.at i c h.1).probes (ap probing e)) (k.looked e)
looked_row l f s i c (look_goes_on_unasked n y d b u lt) h e iv k z = looked_later f s (Read n y) (after f s).table.gens (after f s).table.gens c _ _ refl (same_grew (after f s).table.gens) ((iv.tracked.at i c h.1).probes (ap probing e)) (k.looked e)
looked_row l f s i c _ h e iv k z = absurd (let q : is_look_probe LookProbe ≡ true = refl in let m = ap is_look_probe z in cc)

pub fated_row : (l : Law) (f : ℕ) (s : List Event) (i : ℕ) (c : Call) {p : Phase} {x : Event} {a : Answer} {r : CallState} {ls : List ℕ} {t : Table} {q : Option Reply} → Row (after f s) c p x a r ls t q → AllGrew (after f s).table.gens t.gens → Here l f s x c a i → c.state.phase ≡ p → InvAfter f s → LawOk l (after f s) → UsesBy l (after f s) c c.state.phase x → Fated l f s (after f s).table.gens c → Fated l f (s ++ x ∷ []) t.gens (left c r ls)
fated_row l f s i c row g h e iv o fb k = record {
  placed = placed_row l f s i c row h e iv o k;
  found = found_row l f s i c row g h e iv fb k;
  refused = refused_row l f s i c row h e iv o k;
  looked = looked_row l f s i c row h e iv k;
}

-- A call that begins

pub fated_begin : (l : Law) (f : ℕ) (s : List Event) (gens : List Gen) {x : Event} {n : ℕ} {v : Option ℕ} {p : Phase} {h : ℕ} → Opens x n v p h → Fated l f s gens (starts n v p h)
fated_begin l f s gens (opens_insert n v h) = record { placed = λ u e y. absurd (cc); found = λ u i e w o b. absurd (cc); refused = λ u e y. absurd (cc); looked = λ e. absurd (let m = ap is_look_probe e in cc) }
fated_begin l f s gens (opens_lookup n h) = record { placed = λ u e y. absurd (cc); found = λ u i e w o b. absurd (cc); refused = λ u e y. absurd (cc); looked = λ e. absurd (let m = ap is_look_probe e in cc) }
fated_begin l f s gens (opens_len n) = record { placed = λ u e y. absurd (cc); found = λ u i e w o b. absurd (cc); refused = λ u e y. absurd (cc); looked = λ e. absurd (let m = ap is_look_probe e in cc) }
fated_begin l f s gens (opens_walk n) = record { placed = λ u e y. absurd (cc); found = λ u i e w o b. absurd (cc); refused = λ u e y. absurd (cc); looked = λ e. absurd (let m = ap is_look_probe e in cc) }

pub other_number : (w : World) (i j : ℕ) (c d : Call) → Numbered w → (i ≡ j → ⊥) → slice_get w.calls i ≡ Some c → slice_get w.calls j ≡ Some d → (c.number == d.number) ≡ false
other_number w i j c d n ne g h = false_from_ne_true _ (λ q. ne (n.apart i j c d g h (eqb-true c.number d.number q)))

pub not_its : (w : World) (i j : ℕ) (c d : Call) (a : Answer) → Numbered w → (i ≡ j → ⊥) → slice_get w.calls i ≡ Some c → slice_get w.calls j ≡ Some d → answers_so may_be_refused (Some (Goes c a)) d.number ≡ false
not_its w i j c d a n ne g h = let z : (c.number == d.number) ≡ false = other_number w i j c d n ne g h in rw z (and_right (may_be_refused c.state.phase a) false refl)

-- two calls don't hold the lock for themselves
pub not_both : (w : World) (i j : ℕ) (c d : Call) → Locked w → slice_get w.calls i ≡ Some c → slice_get w.calls j ≡ Some d → c.state.phase ≡ Building → d.state.phase ≡ LeaveFailed → ⊥
not_both w i j c d l g h e k =
    let b : one_if (is_building c.state.phase) ≤ builders w.calls = weigh-get (λ (c : Call). one_if (is_building c.state.phase)) w.calls i c g in
    let o : one_if (is_owning d.state.phase) ≤ owners w.calls = weigh-get (λ (c : Call). one_if (is_owning c.state.phase)) w.calls j d h in
    let b1 : 1 ≤ builders w.calls = rw e at b in
    let o1 : 1 ≤ owners w.calls = rw k at o in
    let m : owners w.calls + builders w.calls ≤ 1 = le_one _ _ l.alone in
    absurd (omega arith)

pub fated_turn : (l : Law) (f : ℕ) (s : List Event) (x : Event) {v : World} {a : Option Act} {r : Option Finished} → Turn (after f s) x a v r → acts (after f s) x ≡ a → InvAfter f s → LawOk l (after f s) → ActsBy l (after f s) x a → AllFated l f s (after f s) → AllFated l f (s ++ x ∷ []) v
fated_turn l f s x rests h iv o u k = λ i c g. fated_other l f s x (after f s).table.gens (after f s).table.gens c (same_grew (after f s).table.gens) (iv.tracked.at i c g) (rw h refl) (λ q. refl) (k i c g)
fated_turn l f s x (opens n v p y ra b q z) h iv o u k = λ i c g. elim (get-push (after f s).calls (starts n v p y) c i g) [
  | inl m ↦ rw m.1 (fated_begin l f (s ++ x ∷ []) (after f s).table.gens b)
  | inr m ↦ fated_other l f s x (after f s).table.gens (after f s).table.gens c (same_grew (after f s).table.gens) (iv.tracked.at i c m) (rw h refl) (λ q. refl) (k i c m)
]
fated_turn l f s x (takes i c p a r list t q g e row nu) h iv o u k = λ j d m. elim (get-set (after f s).calls i j c (left c r list) d g m) [
  | inl z ↦ rw z.1 (fated_row l f s i c row (row_grew (after f s) c row) (h, g) e iv o u (k i c g))
  | inr z ↦ fated_other l f s x (after f s).table.gens t.gens d (row_grew (after f s) c row) (iv.tracked.at j d z.1) (ap (λ y. answers_so may_be_refused y d.number) h ∙ not_its (after f s) i j c d a iv.numbered z.0 g z.1) (λ w. elim (gens_stay (after f s) c row) [ inl y ↦ y | inr y ↦ absurd (not_both (after f s) i j c d iv.locked g z.1 (e ∙ y) w) ]) (k j d z.1)
]

abbrev FatedAfter : Law → ℕ → List Event → Type 0
FatedAfter l f s = IsLawful l f s → AllFated l f s (after f s)

pub fated_snoc : (l : Law) (f : ℕ) → IsFirstCapacity f → (s : List Event) (x : Event) → FatedAfter l f s → FatedAfter l f (s ++ x ∷ [])
fated_snoc l f h s x k u =
    let b = lawful_before l s (x ∷ []) (empty f) u in
    fated_turn l f s x (turn_after f s x) refl (inv f h s) (law_after l f h s b) (lawful_then l s (x ∷ []) (empty f) u).0 (k b)

-- what the calls of a lawful schedule will be told is right
pub fated_after : (l : Law) (f : ℕ) → IsFirstCapacity f → (s : List Event) → IsLawful l f s → AllFated l f s (after f s)
fated_after l f h s = by_snoc (FatedAfter l f) (λ u i c g. absurd (cc)) (fated_snoc l f h) s

-- The event that ends a call

pub refused_told : (v : Option ℕ) (b : Reply) → refused v ≡ Some b → (u : ℕ) × (v ≡ Some u) × (b ≡ ReplyRefused u)
refused_told None b h = absurd (cc)
refused_told (Some u) b h = (u, refl, (let z : ReplyRefused u ≡ b = cc in sym z))

pub right_told : (l : Law) (f : ℕ) (s : List Event) (n : ℕ) (a b : Reply) → b ≡ a → IsRight l f s (say n a) → IsRight l f s (say n b)
right_told l f s n a b e k = rw e k

pub found_told : (o : Option Entry) (u : ℕ) (b : Reply) → found_entry o u ≡ Some b → (e : Entry) × (o ≡ Some e) × (b ≡ ReplyFound e.value u)
found_told None u b h = absurd (cc)
found_told (Some e) u b h = (e, refl, (let z : ReplyFound e.value u ≡ b = cc in sym z))

pub right_outcome_at : (l : Law) (f : ℕ) (s : List Event) (x : Event) (c : Call) (o : Outcome) (v : Option ℕ) → c.state.outcome ≡ o → c.value ≡ v → ((i : ℕ) → in_table c.state.phase (New i) ≡ true) → Fated l f s (after f s).table.gens c → (b : Reply) → reply_of_outcome o (after f s).table c.state v ≡ Some b → IsRight l f (s ++ x ∷ []) (say c.number b)
right_outcome_at l f s x c Pending None e w n k b h = absurd (cc)
right_outcome_at l f s x c Pending (Some v) e w n k b h = absurd (cc)
right_outcome_at l f s x c (New i) None e w n k b h = absurd (cc)
right_outcome_at l f s x c (New i) (Some v) e w n k b h = right_told l f (s ++ x ∷ []) c.number (ReplyPlaced v) b (let z : ReplyPlaced v ≡ b = cc in sym z) (right_later l f s x (say c.number (ReplyPlaced v)) (no_refusal _) (k.placed v w (ap (in_table c.state.phase) e ∙ n i)))
right_outcome_at l f s x c (Existing i) None e w n k b h = absurd (cc)
right_outcome_at l f s x c (Existing i) (Some v) e w n k b h =
    let q = found_told (bucket_in (walked_gen (after f s).table c.state) i) v b h in
    right_told l f (s ++ x ∷ []) c.number (ReplyFound q.0.value v) b q.2 (right_later l f s x (say c.number (ReplyFound q.0.value v)) (no_refusal _) (k.found v i q.0 w e q.1))

pub new_in_table : (p q : Phase) → q ≡ p → ((i : ℕ) → in_table p (New i) ≡ true) → (i : ℕ) → in_table q (New i) ≡ true
new_in_table p q e h i = ap (λ z. in_table z (New i)) e ∙ h i

pub look_value : (l : Law) (c : Call) (m : List ℕ) → c.value ≡ None → weigh (λ u. one_if (accepts l c u)) m ≡ 0 → AcceptsNone (l.test c.number) m
look_value l c m e z = none_in (l.test c.number) m (rw e at z)

pub moment_none : (p : Phase) (a : Answer) → p ≡ LookLoad → is_moment ReplyNone p a ≡ true
moment_none p a e = rw e refl

-- a look-up that accepts nothing in its generation accepted nothing that was placed at its load
pub right_none : (l : Law) (f : ℕ) (s : List Event) (x : Event) (c : Call) (k : ℕ) (g : Gen) → c.value ≡ None → c.state.walked ≡ Some k → slice_get (after f s).table.gens k ≡ Some g → ((e : Entry) → In e g.entries → accepts l c e.value ≡ false) → LookedAt f s (after f s).table.gens c → IsRight l f (s ++ x ∷ []) (say c.number ReplyNone)
right_none l f s x c k g v wa ge none q =
    let z : weigh (λ e. one_if (accepts l c e.value)) g.entries ≡ 0 = none_passes (accepts l c) g.entries none in
    let m : weigh (λ u. one_if (accepts l c u)) (placed (empty f) q.at.before) ≤ values (λ u. one_if (accepts l c u)) g.entries = q.bound k g wa ge (λ u. one_if (accepts l c u)) in
    let y : weigh (λ u. one_if (accepts l c u)) (placed (empty f) q.at.before) ≡ 0 = omega arith in
    record {
      at = taken_later f s c.number q.at x;
      moment = moment_none q.at.call.state.phase q.at.found q.load;
      last = λ h. absurd (cc);
      meets = meets_none ReplyNone _ refl;
      answer = (look_value l c (placed (empty f) q.at.before) v y, q.same);
    }

-- a look-up that accepts nothing in its last bucket either has found no entry
pub right_at_turn : (l : Law) (f : ℕ) (s : List Event) (x : Event) (i : ℕ) (c : Call) (d : Entry) → slice_get (after f s).calls i ≡ Some c → c.state.phase ≡ LookProbe → InvAfter f s → LawOk l (after f s) → Fated l f s (after f s).table.gens c → bucket_of (after f s).table c.state ≡ Some d → accepts l c d.value ≡ false → nat_lt (c.state.seen + 1) c.state.capacity ≡ false → IsRight l f (s ++ x ∷ []) (say c.number ReplyNone)
right_at_turn l f s x i c d at e iv o k u ref lt =
    let v : c.value ≡ None = no_value LookProbe (refl, λ i. refl, λ i. refl, refl, λ i. refl, λ i. refl) c.value c.state.outcome (fit_at c _ _ (iv.calls.at i c at) e) in
    let pr : probing c.state.phase ≡ true = ap probing e in
    let g = (iv.tracked.at i c at).probes pr in
    let j = o.calls i c at in
    let all = missed_more l (after f s) c d g u ref (j.probes pr) in
    let full : c.state.capacity ≤ c.state.seen + 1 = ltb-false (c.state.seen + 1) c.state.capacity lt in
    let cap : g.gen.capacity ≤ c.state.seen + 1 = rw g.capacity at full in
    right_none l f s x c g.number g.gen v g.walked g.got (misses_at_turn l c g.gen (c.state.seen + 1) (iv.seated.gens g.number g.gen g.got) (o.gens g.number g.gen g.got) all (j.hash (ap is_asking e)) cap) (k.looked e)

pub right_row : (l : Law) (f : ℕ) (s : List Event) (i : ℕ) (c : Call) {p : Phase} {x : Event} {a : Answer} {r : CallState} {ls : List ℕ} {t : Table} {q : Option Reply} → Row (after f s) c p x a r ls t q → Here l f s x c a i → c.state.phase ≡ p → InvAfter f s → LawOk l (after f s) → UsesBy l (after f s) c c.state.phase x → Fated l f s (after f s).table.gens c → (b : Reply) → q ≡ Some b → is_list_reply b ≡ true → IsRight l f (s ++ x ∷ []) (say c.number b)
right_row l f s i c (leaves_refused n) h e iv o fb k b w z =
    let y = refused_told c.value b w in
    right_told l f _ c.number (ReplyRefused y.0) b y.2 (right_later l f s (Free n) (say c.number (ReplyRefused y.0)) (λ q. ap (λ z. answers_so may_be_refused z c.number) h.0 ∙ not_try c LeaveRefused _ c.number e refl) (k.refused y.0 y.1 (rw e refl)))
right_row l f s i c (small n g u lt) h e iv o fb k b w z = right_outcome_at l f s (Size n) c c.state.outcome c.value refl refl (new_in_table AskSize c.state.phase e (λ i. refl)) k b w
right_row l f s i c (ends n u) h e iv o fb k b w z = right_outcome_at l f s (Free n) c c.state.outcome c.value refl refl (new_in_table LeaveOwned c.state.phase e (λ i. refl)) k b w
right_row l f s i c (ends_failed n u) h e iv o fb k b w z = right_outcome_at l f s (Free n) c c.state.outcome c.value refl refl (new_in_table LeaveFailed c.state.phase e (λ i. refl)) k b w
right_row l f s i c (gives_up n u cu) h e iv o fb k b w z =
    let y = refused_told c.value b w in
    let po : c.state.outcome ≡ Pending = pending_of c.state.outcome u in
    right_told l f _ c.number (ReplyRefused y.0) b y.2 (right_later l f s (Free n) (say c.number (ReplyRefused y.0)) (λ q. ap (λ z. answers_so may_be_refused z c.number) h.0 ∙ not_try c LeaveFailed _ c.number e refl) (k.refused y.0 y.1 (rw (e, po, cu) refl)))
right_row l f s i c (looks_none n u) h e iv o fb k b w z =
    let v : c.value ≡ None = no_value LookLoad (refl, λ i. refl, λ i. refl, refl, λ i. refl, λ i. refl) c.value c.state.outcome (fit_at c _ _ (iv.calls.at i c h.1) e) in
    right_told l f _ c.number ReplyNone b (let y : ReplyNone ≡ b = cc in sym y) (right_here l f s (Load n) (say c.number ReplyNone) c NoGeneration h.0 refl (moment_none c.state.phase NoGeneration e) (meets_none ReplyNone _ refl) (answer_none l (placed (empty f) s) c.number (look_value l c (placed (empty f) s) v (none_at_first l (after f s) (placed (empty f) s) c u iv.holding))))
right_row l f s i c (look_empty n y u) h e iv o fb k b w z =
    let v : c.value ≡ None = no_value LookProbe (refl, λ i. refl, λ i. refl, refl, λ i. refl, λ i. refl) c.value c.state.outcome (fit_at c _ _ (iv.calls.at i c h.1) e) in
    let pr : probing c.state.phase ≡ true = ap probing e in
    let g = (iv.tracked.at i c h.1).probes pr in
    let j = o.calls i c h.1 in
    let em : bucket g.gen.entries (bucket_at g.gen.capacity c.state.hash c.state.seen) ≡ None = rw (← g.index) (bucket_none (after f s).table c.state g.number g.gen g.walked g.got u) in
    right_told l f _ c.number ReplyNone b (let y : ReplyNone ≡ b = cc in sym y) (right_none l f s (Read n y) c g.number g.gen v g.walked g.got (misses_at_empty l c g.gen c.state.seen (iv.seated.gens g.number g.gen g.got) (o.gens g.number g.gen g.got) (j.probes pr g.number g.gen g.walked g.got) (j.hash (ap is_asking e)) em) (k.looked e))
right_row l f s i c (look_turns n y d u nay lt) h e iv o fb k b w z =
    let ref : accepts l c d.value ≡ false = refused_by l (after f s) c LookProbe (Read n y) d y o.gens e (λ x. x) u (declined d c.state y nay) fb ((o.calls i c h.1).hash (ap is_asking e)) ((iv.tracked.at i c h.1).probes (ap probing e)) in
    right_told l f _ c.number ReplyNone b (let y : ReplyNone ≡ b = cc in sym y) (right_at_turn l f s (Read n y) i c d h.1 e iv o k u ref lt)
right_row l f s i c (look_turns_unasked n y d u nay lt) h e iv o fb k b w z =
    let ref : accepts l c d.value ≡ false = refused_by l (after f s) c LookProbe (Read n y) d y o.gens e (λ x. x) u (differing d c.state y nay) fb ((o.calls i c h.1).hash (ap is_asking e)) ((iv.tracked.at i c h.1).probes (ap probing e)) in
    right_told l f _ c.number ReplyNone b (let y : ReplyNone ≡ b = cc in sym y) (right_at_turn l f s (Read n y) i c d h.1 e iv o k u ref lt)
right_row l f s i c (look_meets n y d u ok) h e iv o fb k b w z =
    let v : c.value ≡ None = no_value LookProbe (refl, λ i. refl, λ i. refl, refl, λ i. refl, λ i. refl) c.value c.state.outcome (fit_at c _ _ (iv.calls.at i c h.1) e) in
    let ac : accepts l c d.value ≡ true = accepted_at l (after f s) c LookProbe (Read n y) d y e (λ x. x) u ok fb in
    let te : l.test c.number d.value ≡ true = rw v at ac in
    right_told l f _ c.number (ReplySome d.value) b (let y : ReplySome d.value ≡ b = cc in sym y) (right_here l f s (Read n y) (say c.number (ReplySome d.value)) c _ h.0 refl (moment_look d.value c.state.phase e) (λ n g. (d, u, (let t : d.value ≡ n = cc in t))) (answer_some l (placed (empty f) s) c.number d.value (bucket_placed (after f s) (placed (empty f) s) c d iv.within ((iv.tracked.at i c h.1).probes (ap probing e)) u) te))
right_row l f s i c (len_none _ _) h e iv o fb k b w z = absurd (let y : ReplyLen 0 ≡ b = cc in let m : is_list_reply (ReplyLen 0) ≡ true = ap is_list_reply y ∙ z in cc)
right_row l f s i c (len_size n g u) h e iv o fb k b w z = absurd (let y : ReplyLen g.size ≡ b = cc in let m : is_list_reply (ReplyLen g.size) ≡ true = ap is_list_reply y ∙ z in cc)
right_row l f s i c (walk_none _ _) h e iv o fb k b w z = absurd (let y : ReplyWalk [] ≡ b = cc in let m : is_list_reply (ReplyWalk []) ≡ true = ap is_list_reply y ∙ z in cc)
right_row l f s i c (walk_skips_last _ _ _ _) h e iv o fb k b w z = absurd (let y : ReplyWalk c.list ≡ b = cc in let m : is_list_reply (ReplyWalk c.list) ≡ true = ap is_list_reply y ∙ z in cc)
right_row l f s i c (walk_takes_last _ _ d _ _) h e iv o fb k b w z = absurd (let y : ReplyWalk (c.list ++ d.value ∷ []) ≡ b = cc in let m : is_list_reply (ReplyWalk (c.list ++ d.value ∷ [])) ≡ true = ap is_list_reply y ∙ z in cc)
right_row l f s i c _ h e iv o fb k b w z = absurd (cc)

pub told_by_reply : (n : ℕ) (o : Option Reply) (r : Finished) → finished_call n o ≡ Some r → (b : Reply) × (o ≡ Some b) × (say n b ≡ r)
told_by_reply n None r h = absurd (cc)
told_by_reply n (Some b) r h = (b, refl, (let z : say n b ≡ r = cc in z))

pub right_turn : (l : Law) (f : ℕ) (s : List Event) (x : Event) {v : World} {a : Option Act} {q : Option Finished} → Turn (after f s) x a v q → acts (after f s) x ≡ a → InvAfter f s → LawOk l (after f s) → ActsBy l (after f s) x a → AllFated l f s (after f s) → (r : Finished) → q ≡ Some r → is_list_reply r.reply ≡ true → IsRight l f (s ++ x ∷ []) r
right_turn l f s x rests h iv o u k r w z = absurd (cc)
right_turn l f s x (opens _ _ _ _ _ _ _ _) h iv o u k r w z = absurd (cc)
right_turn l f s x (takes i c p a st list t q g e row nu) h iv o u k r w z =
    let y = told_by_reply c.number q r w in
    rw (← y.2) (right_row l f s i c row (h, g) e iv o u (k i c g) y.0 y.1 (ap (λ (m : Finished). is_list_reply m.reply) y.2 ∙ z))

-- each finished insert and look-up is right
pub right : (l : Law) (f : ℕ) (s : List Event) (x : Event) (r : Finished) → IsFirstCapacity f → IsLawful l f (s ++ x ∷ []) → Ends f s x r → is_list_reply r.reply ≡ true → IsRight l f (s ++ x ∷ []) r
right l f s x r h u e z =
    let b = lawful_before l s (x ∷ []) (empty f) u in
    right_turn l f s x (turn_after f s x) refl (inv f h s) (law_after l f h s b) (lawful_then l s (x ∷ []) (empty f) u).0 (fated_after l f h s b) r e z
