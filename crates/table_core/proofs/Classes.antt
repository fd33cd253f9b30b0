-- What equal values have: no insert is refused in vain, and each class has one entry.
use Rattle.std.proofs.Common.{eqb-true, ℕ, suc, zero, ◌≡◌, ◌+◌, ◌≤◌, ◌++◌, ◌⊎◌, inl, inr, List, [], ◌∷◌, Bool, true, false, refl, Option, Some, None, length, sym, subst, ap, arith, ◌∙◌}
use Rattle.std.specs.Prelude.{◌||◌, option_to_list, if◌then◌else◌}
use Rattle.std.specs.List.{slice_get, list_any}
use Rattle.table_core.proofs.Weights.{weigh, count_by-weigh, same_weights}
use Rattle.table_core.specs.Replies.{Reply, ReplyFound, ReplyRefused, Finished}
use Rattle.table_core.specs.Generations.{Gen, Table, last_of, gen_of, bucket_in, is_current}
use Rattle.table_terms.specs.Capacities.{IsFirstCapacity}
use Rattle.table_core.specs.Phases.{stands}
use Rattle.table_core.specs.Calls.{Call, starts, is_done, is_pending}
use Rattle.table_core.specs.Machine.{World, empty, walked_gen, refused, reply_of_outcome, reply, Act, Begins, acts, finished_call, finishes, after}
use Rattle.table_core.specs.History.{replies, placed_by, placed, given, handed_back, back, kept, runs, running}
use Rattle.table_core.specs.Steps.{Row, reads_empty, memory_refused, leaves_refused, small, ends, ends_failed, gives_up, Opens, opens_insert, opens_lookup, opens_len, opens_walk, left}
use Rattle.table_core.specs.declared.event.Event.{Event}
use Rattle.table_core.specs.declared.event.Event.TheVariants.{Insert}
use Rattle.table_core.specs.declared.generation.Entry.{Entry}
use Rattle.table_core.specs.declared.call.CallState.{CallState}
use Rattle.table_core.specs.declared.call.Phase.{Phase}
use Rattle.table_core.specs.declared.call.Phase.TheVariants.{WantShared, AtEmpty, LeaveRefused, LeaveFailed, Done}
use Rattle.table_core.specs.declared.call.Outcome.{Outcome}
use Rattle.table_core.specs.declared.call.Outcome.TheVariants.{Pending, New, Existing}
use Rattle.table_core.specs.declared.call.Answer.{Answer}
use Rattle.table_core.proofs.Lists.{weigh-append, get-set_same, get-set_other, get-push_before, get-push_last}
use Rattle.table_core.proofs.Locks.{weigh-le, more}
use Rattle.std.specs.List.{list_all}
use Rattle.std.proofs.lemmas.Bool.{eqb-true}
use Rattle.std.proofs.lemmas.List.{append_assoc}
use Rattle.table_core.specs.Law.{Law, accepts, IsLawful}
use Rattle.table_core.specs.Bound.{one_if}
use Rattle.table_core.specs.Lists.{IsSettled, is_refusal, NoneRefusedInVain, Classes, SameClasses}
use Rattle.table_core.proofs.Turns.{Turn, rests, opens, takes}
use Rattle.table_core.proofs.Standing.{pending_of}
use Rattle.table_core.proofs.Facts.{Within, probing, wants_growth, is_asking, LawOk, Inv}
use Rattle.table_core.proofs.Contents.{in_bucket, same_number}
use Rattle.table_core.proofs.Pasts.{turn_after, placed_snoc, replies_snoc, by_snoc, by_snoc_from}
use Rattle.table_core.proofs.Invariant.{inv, values_weigh, kept_weighs}
use Rattle.table_core.proofs.Lawful.{lawful_before, law_after, none_placed, current_at, misses_at_turn, fresh_value, passes_le, placed_once_each}
use Rattle.table_core.proofs.Right.{weigh-in, found_told, told_by_reply}
use Rattle.std.proofs.lemmas.Bool.{and_parts, or_parts}
use Rattle.table_core.proofs.Refusals.{outcome_unrefused}

-- Replies that name a value

-- a refused call is told so where it leaves after its memory was refused, or after a failed growth whose generation is still the current one
abbrev pub LeavesRefused : World → Call → Phase → Type 0
LeavesRefused w c p = (p ≡ LeaveRefused) ⊎ ((p ≡ LeaveFailed) × (is_pending c.state.outcome ≡ true) × (is_current w.table.gens c.state.walked ≡ true))

row_refused : (w : World) (c : Call) {p : Phase} {x : Event} {a : Answer} {r : CallState} {ls : List ℕ} {t : Table} {q : Option Reply} → Row w c p x a r ls t q → (k : ℕ) → q ≡ Some (ReplyRefused k) → LeavesRefused w c p
row_refused w c (leaves_refused n) k h = inl refl
row_refused w c (gives_up n e d) k h = inr (refl, e, d)
row_refused w c (small n g e d) k h = absurd (outcome_unrefused c.state.outcome w.table c.state c.value k h)
row_refused w c (ends n e) k h = absurd (outcome_unrefused c.state.outcome w.table c.state c.value k h)
row_refused w c (ends_failed n e) k h = absurd (outcome_unrefused c.state.outcome w.table c.state c.value k h)
row_refused w c _ k h = absurd (cc)

-- the entry that a finished insert has found: the entry in the bucket that it accepted
record Finding (w : World) (c : Call) (e v : ℕ) : Type 0 where
  index : ℕ
  entry : Entry
  outcome : c.state.outcome ≡ Existing index
  there : bucket_in (gen_of w.table.gens c.state.walked) index ≡ Some entry
  value : entry.value ≡ e
  own : c.value ≡ Some v

finds_at : (w : World) (c : Call) (o : Outcome) (v : Option ℕ) (e u : ℕ) → c.state.outcome ≡ o → c.value ≡ v → reply_of_outcome o w.table c.state v ≡ Some (ReplyFound e u) → Finding w c e u
finds_at w c (Existing i) (Some v) e u h k q =
    let f = found_told (bucket_in (walked_gen w.table c.state) i) v (ReplyFound e u) q in
    let same : ReplyFound e u ≡ ReplyFound f.0.value v = f.2 in
    record { index = i; entry = f.0; outcome = h; there = f.1; value = (let y : e ≡ f.0.value = cc in sym y); own = (let y : u ≡ v = cc in k ∙ ap Some (sym y)) }
finds_at w c (New i) (Some v) e u h k q = absurd (cc)
finds_at w c Pending v e u h k q = absurd (cc)
finds_at w c (New i) None e u h k q = absurd (cc)
finds_at w c (Existing i) None e u h k q = absurd (cc)

refused_no_find : (v : Option ℕ) (e u : ℕ) → refused v ≡ Some (ReplyFound e u) → ⊥
refused_no_find None e u h = cc
refused_no_find (Some v) e u h = cc

row_found : (w : World) (c : Call) {p : Phase} {x : Event} {a : Answer} {r : CallState} {ls : List ℕ} {t : Table} {q : Option Reply} → Row w c p x a r ls t q → (e v : ℕ) → q ≡ Some (ReplyFound e v) → Finding w c e v
row_found w c (small n g m d) e v h = finds_at w c c.state.outcome c.value e v refl refl h
row_found w c (ends n m) e v h = finds_at w c c.state.outcome c.value e v refl refl h
row_found w c (ends_failed n m) e v h = finds_at w c c.state.outcome c.value e v refl refl h
row_found w c (leaves_refused n) e v h = absurd (refused_no_find c.value e v h)
row_found w c (gives_up n m d) e v h = absurd (refused_no_find c.value e v h)
row_found w c _ e v h = absurd (cc)

-- How many of a list pass a test

abbrev passing : (ℕ → Bool) → List ℕ → ℕ
passing p xs = weigh (λ u. one_if (p u)) xs

any_at : (p : ℕ → Bool) (xs : List ℕ) (b : Bool) → (list_any p xs ≡ true → 1 ≤ passing p xs) → (b || list_any p xs) ≡ true → 1 ≤ one_if b + passing p xs
any_at p xs true f h = omega arith
any_at p xs false f h = omega (arith, f h)

any_passes : (p : ℕ → Bool) (xs : List ℕ) → list_any p xs ≡ true → 1 ≤ passing p xs
any_passes p [] h = absurd (cc)
any_passes p (x ∷ xs) h = any_at p xs (p x) (any_passes p xs) h

none_passing : (p : ℕ → Bool) (xs : List ℕ) → list_any p xs ≡ false → passing p xs ≡ 0
none_passing p [] h = refl
none_passing p (x ∷ xs) h = let k : (p x ≡ false) × (list_any p xs ≡ false) = or_parts _ _ h in omega (arith, ap one_if k.0, none_passing p xs k.1)

-- No insert is refused in vain

last_none : (gens : List Gen) → length gens ≡ 0 → last_of gens ≡ None
last_none [] h = refl
last_none (x ∷ xs) h = absurd (omega arith)

-- an insert that has turned in the current generation accepts nothing that was placed
none_at_turn_in : (l : Law) (w : World) (m : List ℕ) (rs : List Finished) (i : ℕ) (c : Call) (o : Option ℕ) → c.state.walked ≡ o → slice_get w.calls i ≡ Some c → wants_growth c.state.phase c.state.outcome ≡ true → is_asking c.state.phase ≡ true → is_current w.table.gens o ≡ true → Inv w m rs → LawOk l w → passing (accepts l c) m ≡ 0
none_at_turn_in l w m rs i c None e g u a h v o =
    let n : length w.table.gens ≡ 0 = eqb-true (length w.table.gens) 0 h in
    let b : 0 ≡ passing (accepts l c) m = rw (last_none w.table.gens n) at (v.holding.bag (λ u. one_if (accepts l c u))) in
    sym b
none_at_turn_in l w m rs i c (Some k) e g u a h v o =
    let n : k + 1 ≡ length w.table.gens = eqb-true (k + 1) (length w.table.gens) h in
    let f = ((v.tracked.at i c g).turned u).full k e in
    let j = o.calls i c g in
    none_placed l w m c f.0 (current_at w.table.gens k f.0 (omega arith) f.1) v.holding (misses_at_turn l c f.0 f.0.capacity (v.seated.gens k f.0 f.1) (o.gens k f.0 f.1) (j.turned u k f.0 e f.1) (j.hash a) (omega arith))

pub none_at_turn : (l : Law) (w : World) (m : List ℕ) (rs : List Finished) (i : ℕ) (c : Call) → slice_get w.calls i ≡ Some c → wants_growth c.state.phase c.state.outcome ≡ true → is_asking c.state.phase ≡ true → is_current w.table.gens c.state.walked ≡ true → Inv w m rs → LawOk l w → passing (accepts l c) m ≡ 0
none_at_turn l w m rs i c g u a h v o = none_at_turn_in l w m rs i c c.state.walked refl g u a h v o

-- a call that has met no empty bucket since it began
abbrev meets_none : Phase → Bool
meets_none AtEmpty = false
meets_none LeaveRefused = false
meets_none _ = true

-- this insert of this value is among the calls, and has met no empty bucket
record Sheltered (n v : ℕ) (w : World) : Type 0 where
  position : ℕ
  call : Call
  there : slice_get w.calls position ≡ Some call
  number : call.number ≡ n
  value : call.value ≡ Some v
  full : meets_none call.state.phase ≡ true

-- where an equal entry was placed, it meets none
sheltered_row : (l : Law) (w : World) (m : List ℕ) (rs : List Finished) (i : ℕ) (c : Call) (v : ℕ) {p : Phase} {x : Event} {a : Answer} {r : CallState} {ls : List ℕ} {t : Table} {q : Option Reply} → Row w c p x a r ls t q → c.state.phase ≡ p → slice_get w.calls i ≡ Some c → c.value ≡ Some v → Inv w m rs → LawOk l w → 1 ≤ passing (l.equal v) m → meets_none p ≡ true → meets_none r.phase ≡ true
sheltered_row l w m rs i c v (reads_empty _ _ n) e g h k o le z =
    let none : passing (accepts l c) m ≡ 0 = fresh_value l w m rs i c g n (ap probing e) (ap stands e) (ap is_asking e) k o in
    let same : passing (l.equal v) m ≡ 0 = rw h at none in
    absurd (omega arith)
sheltered_row l w m rs i c v (memory_refused _ _) e g h k o le z = absurd (cc)
sheltered_row l w m rs i c v _ e g h k o le z = refl

sheltered_turn : (l : Law) (n u : ℕ) {w v : World} {x : Event} {a : Option Act} {r : Option Finished} (m : List ℕ) (rs : List Finished) → Turn w x a v r → Inv w m rs → LawOk l w → 1 ≤ passing (l.equal u) m → Sheltered n u w → Sheltered n u v
sheltered_turn l n u m rs rests k o le q = q
sheltered_turn l n u {w = w} m rs (opens _ _ _ _ _ _ _ _) k o le q = record { position = q.position; call = q.call; there = get-push_before w.calls _ q.position q.call q.there; number = q.number; value = q.value; full = q.full }
sheltered_turn l n u {w = w} m rs (takes i c p a s list t b g e row nu) k o le q = elim (same_number i q.position) [
  | inl y ↦ (
      let g2 : slice_get w.calls i ≡ Some q.call = rw y q.there in
      let d : q.call ≡ c = cc in
      let va : c.value ≡ Some u = ap (λ (z : Call). z.value) (sym d) ∙ q.value in
      let fu : meets_none c.state.phase ≡ true = ap (λ (z : Call). meets_none z.state.phase) (sym d) ∙ q.full in
      record {
        position = i;
        call = left c s list;
        there = get-set_same w.calls i c (left c s list) g;
        number = ap (λ (z : Call). z.number) (sym d) ∙ q.number;
        value = va;
        full = sheltered_row l w m rs i c u row e g va k o le (sym (ap meets_none e) ∙ fu);
      })
  | inr y ↦ record { position = q.position; call = q.call; there = get-set_other w.calls i q.position (left c s list) y ∙ q.there; number = q.number; value = q.value; full = q.full }
]

-- an insert that begins
begin_insert : {x : Event} {m : ℕ} {u : Option ℕ} {p : Phase} {k : ℕ} → Opens x m u p k → (n v h : ℕ) → x ≡ Insert n v h → (m ≡ n) × (u ≡ Some v) × (p ≡ WantShared)
begin_insert (opens_insert n v h) m u k e = (cc, cc, refl)
begin_insert (opens_lookup n h) m u k e = absurd (cc)
begin_insert (opens_len n) m u k e = absurd (cc)
begin_insert (opens_walk n) m u k e = absurd (cc)

sheltered_first : {w v : World} {x : Event} {a : Option Act} {r : Option Finished} → Turn w x a v r → (n u h : ℕ) (c : Call) → x ≡ Insert n u h → a ≡ Some (Begins c) → Sheltered n u v
sheltered_first rests n u h c e q = absurd (cc)
sheltered_first {w = w} (opens m v p k ra o us nv) n u h c e q =
    let b = begin_insert o n u h e in
    record { position = length w.calls; call = starts m v p k; there = get-push_last w.calls (starts m v p k); number = b.0; value = b.1; full = ap meets_none b.2 }
sheltered_first (takes i d p a s list t o g f row nu) n u h c e q = absurd (cc)

abbrev StaysSheltered : Law → ℕ → ℕ → ℕ → List Event → Type 0
StaysSheltered l f n v s = IsLawful l f s → (1 ≤ passing (l.equal v) (placed (empty f) s)) × Sheltered n v (after f s)

placed_more : (l : Law) (f : ℕ) (v : ℕ) (s : List Event) (x : Event) → 1 ≤ passing (l.equal v) (placed (empty f) s) → 1 ≤ passing (l.equal v) (placed (empty f) (s ++ x ∷ []))
placed_more l f v s x le = rw placed_snoc (omega (arith, le, weigh-append (λ u. one_if (l.equal v u)) (placed (empty f) s) (placed_by (acts (after f s) x))))

sheltered_snoc : (l : Law) (f n v : ℕ) → IsFirstCapacity f → (s : List Event) (x : Event) → StaysSheltered l f n v s → StaysSheltered l f n v (s ++ x ∷ [])
sheltered_snoc l f n v i s x k h =
    let b = lawful_before l s (x ∷ []) (empty f) h in
    let q = k b in
    (placed_more l f v s x q.0, sheltered_turn l n v (placed (empty f) s) (replies (empty f) s) (turn_after f s x) (inv f i s) (law_after l f i s b) q.0 q.1)

-- a sheltered insert isn't refused
sheltered_reply : (l : Law) (n u back : ℕ) {w v : World} {x : Event} {a : Option Act} {r : Option Finished} (m : List ℕ) (rs : List Finished) → Turn w x a v r → Inv w m rs → LawOk l w → 1 ≤ passing (l.equal u) m → Sheltered n u w → r ≡ Some (record { call = n; reply = ReplyRefused back }) → ⊥
sheltered_reply l n u back m rs rests k o le q h = cc
sheltered_reply l n u back m rs (opens _ _ _ _ _ _ _ _) k o le q h = cc
sheltered_reply l n u back {w = w} m rs (takes i c p a s list u2 b g e row nu) k o le q h =
    let t = told_by_reply c.number b (record { call = n; reply = ReplyRefused back }) h in
    let own : c.number ≡ n = ap (λ (r : Finished). r.call) t.2 in
    let said : b ≡ Some (ReplyRefused back) = t.1 ∙ ap Some (ap (λ (r : Finished). r.reply) t.2) in
    let y : i ≡ q.position = k.numbered.apart i q.position c q.call g q.there (own ∙ sym q.number) in
    let g2 : slice_get w.calls i ≡ Some q.call = rw y q.there in
    let d : q.call ≡ c = cc in
    let va : c.value ≡ Some u = ap (λ (z : Call). z.value) (sym d) ∙ q.value in
    let fu : meets_none p ≡ true = sym (ap meets_none e) ∙ (ap (λ (z : Call). meets_none z.state.phase) (sym d) ∙ q.full) in
    elim (row_refused w c row back said) [
      | inl z ↦ (let no : meets_none LeaveRefused ≡ true = rw z at fu in cc)
      | inr z ↦ (
          let ph : c.state.phase ≡ LeaveFailed = e ∙ z.0 in
          let out : c.state.outcome ≡ Pending = pending_of c.state.outcome z.1 in
          let none : passing (accepts l c) m ≡ 0 = none_at_turn l w m rs i c g (rw (ph, out) refl) (rw ph refl) z.2 k o in
          let same : passing (l.equal u) m ≡ 0 = rw va at none in
          omega arith)
    ]

within_assoc : (s more : List Event) (y x : Event) → s ++ y ∷ more ++ x ∷ [] ≡ (s ++ y ∷ more) ++ x ∷ []
within_assoc [] more y x = refl
within_assoc (z ∷ s) more y x = ap (λ l. z ∷ l) (within_assoc s more y x)

pub none_refused_in_vain : (l : Law) (f : ℕ) (s : List Event) (n v h : ℕ) (more : List Event) (x : Event) (back : ℕ) → IsFirstCapacity f → NoneRefusedInVain l f s n v h more x back
none_refused_in_vain l f s n v h more x back i c law begun any reply =
    let all : s ++ Insert n v h ∷ more ++ x ∷ [] ≡ (s ++ Insert n v h ∷ more) ++ x ∷ [] = within_assoc s more (Insert n v h) x in
    let b : IsLawful l f (s ++ Insert n v h ∷ more) = lawful_before l (s ++ Insert n v h ∷ more) (x ∷ []) (empty f) (subst (IsLawful l f) all law) in
    let first : StaysSheltered l f n v (s ++ Insert n v h ∷ []) = λ z. (placed_more l f v s (Insert n v h) (any_passes (l.equal v) (placed (empty f) s) any), sheltered_first (turn_after f s (Insert n v h)) n v h c refl begun) in
    let later : StaysSheltered l f n v ((s ++ Insert n v h ∷ []) ++ more) = by_snoc_from (StaysSheltered l f n v) (sheltered_snoc l f n v i) more (s ++ Insert n v h ∷ []) first in
    let now : StaysSheltered l f n v (s ++ Insert n v h ∷ more) = subst (StaysSheltered l f n v) (append_assoc s (Insert n v h ∷ []) more) later in
    let q = now b in
    sheltered_reply l n v back (placed (empty f) (s ++ Insert n v h ∷ more)) (replies (empty f) (s ++ Insert n v h ∷ more)) (turn_after f (s ++ Insert n v h ∷ more) x) (inv f i (s ++ Insert n v h ∷ more)) (law_after l f i (s ++ Insert n v h ∷ more) b) q.0 q.1 reply

-- What is handed back is equal to an entry

-- the value of an insert that has found an entry
abbrev given_up : Reply → List ℕ
given_up (ReplyFound e v) = v ∷ []
given_up _ = []

abbrev given_ups : (ℕ → Bool) → List Finished → ℕ
given_ups p rs = weigh (λ r. passing p (given_up r.reply)) rs

gen_passes : (p : ℕ → Bool) (w : World) (m : List ℕ) (k i : ℕ) (o : Option Gen) (e : Entry) → slice_get w.table.gens k ≡ o → bucket_in o i ≡ Some e → Within w m → p e.value ≡ true → 1 ≤ passing p m
gen_passes p w m k i None e h b n y = absurd (cc)
gen_passes p w m k i (Some g) e h b n y = omega (arith, n.each k g h (λ u. one_if (p u)), weigh-in (λ e. one_if (p e.value)) e g.entries (in_bucket e g.entries i b), ap one_if y)

-- an entry in a bucket was placed
bucket_passes : (p : ℕ → Bool) (w : World) (m : List ℕ) (o : Option ℕ) (i : ℕ) (e : Entry) → bucket_in (gen_of w.table.gens o) i ≡ Some e → Within w m → p e.value ≡ true → 1 ≤ passing p m
bucket_passes p w m None i e b n y = absurd (cc)
bucket_passes p w m (Some k) i e b n y = gen_passes p w m k i (slice_get w.table.gens k) e refl b n y

-- a value that was given up has an equal among those placed
found_equal : (l : Law) (w : World) (m : List ℕ) (rs : List Finished) (i : ℕ) (c : Call) (e v : ℕ) → slice_get w.calls i ≡ Some c → Finding w c e v → Inv w m rs → LawOk l w → 1 ≤ passing (l.equal v) m
found_equal l w m rs i c e v g f k o =
    let a : accepts l c f.entry.value ≡ true = (o.calls i c g).met f.index f.entry f.outcome f.there in
    let b : l.equal v f.entry.value ≡ true = rw f.own at a in
    bucket_passes (l.equal v) w m c.state.walked f.index f.entry f.there k.within b

equal_more_at : (l : Law) (m : List ℕ) (x v : ℕ) (b : Bool) → l.equal x v ≡ b → 1 ≤ one_if b + 0 → 1 ≤ passing (l.equal v) m → 1 ≤ passing (l.equal x) m
equal_more_at l m x v false h y z = absurd (omega arith)
equal_more_at l m x v true h y z = omega (arith, z, weigh-le (λ u. one_if (l.equal v u)) (λ u. one_if (l.equal x u)) (λ u. passes_le (l.equal v u) (l.equal x u) (λ q. l.transitive x v u h q)) m)

told_equal : (l : Law) (w : World) (m : List ℕ) (rs : List Finished) (i : ℕ) (c : Call) (t : Reply) (x : ℕ) {p : Phase} {y : Event} {a : Answer} {r : CallState} {ls : List ℕ} {u : Table} {q : Option Reply} → Row w c p y a r ls u q → q ≡ Some t → slice_get w.calls i ≡ Some c → Inv w m rs → LawOk l w → 1 ≤ passing (l.equal x) (given_up t) → 1 ≤ passing (l.equal x) m
told_equal l w m rs i c (ReplyFound e v) x row h g k o z = equal_more_at l m x v (l.equal x v) refl z (found_equal l w m rs i c e v g (row_found w c row e v h) k o)
told_equal l w m rs i c _ x row h g k o z = absurd (omega arith)

reply_equal : (l : Law) (w : World) (m : List ℕ) (rs : List Finished) (i : ℕ) (c : Call) (b : Option Reply) (x : ℕ) {p : Phase} {y : Event} {a : Answer} {r : CallState} {ls : List ℕ} {u : Table} {q : Option Reply} → Row w c p y a r ls u q → q ≡ b → slice_get w.calls i ≡ Some c → Inv w m rs → LawOk l w → 1 ≤ given_ups (l.equal x) (option_to_list (finished_call c.number b)) → 1 ≤ passing (l.equal x) m
reply_equal l w m rs i c None x row h g k o z = absurd (omega arith)
reply_equal l w m rs i c (Some t) x row h g k o z = told_equal l w m rs i c t x row h g k o (omega arith)

turn_equal : (l : Law) {w v : World} {y : Event} {a : Option Act} {r : Option Finished} (m : List ℕ) (rs : List Finished) → Turn w y a v r → Inv w m rs → LawOk l w → (x : ℕ) → 1 ≤ given_ups (l.equal x) (option_to_list r) → 1 ≤ passing (l.equal x) m
turn_equal l m rs rests k o x z = absurd (omega arith)
turn_equal l m rs (opens _ _ _ _ _ _ _ _) k o x z = absurd (omega arith)
turn_equal l {w = w} m rs (takes i c p a s list t b g e row nu) k o x z = reply_equal l w m rs i c b x row refl g k o z

abbrev GivenUpEqual : Law → ℕ → List Event → Type 0
GivenUpEqual l f s = IsLawful l f s → (x : ℕ) → 1 ≤ given_ups (l.equal x) (replies (empty f) s) → 1 ≤ passing (l.equal x) (placed (empty f) s)

equal_or : (a b m : ℕ) → (1 ≤ a → 1 ≤ m) → (1 ≤ b → 1 ≤ m) → 1 ≤ a + b → 1 ≤ m
equal_or zero b m f g h = g (omega arith)
equal_or (suc a) b m f g h = f (omega arith)

given_up_snoc : (l : Law) (f : ℕ) → IsFirstCapacity f → (s : List Event) (y : Event) → GivenUpEqual l f s → GivenUpEqual l f (s ++ y ∷ [])
given_up_snoc l f i s y k h x z =
    let b = lawful_before l s (y ∷ []) (empty f) h in
    let old = replies (empty f) s in
    let new = option_to_list (finishes (after f s) y) in
    let split : given_ups (l.equal x) (old ++ new) ≡ given_ups (l.equal x) old + given_ups (l.equal x) new = weigh-append (λ (r : Finished). passing (l.equal x) (given_up r.reply)) old new in
    let all : 1 ≤ given_ups (l.equal x) (old ++ new) = rw (replies_snoc f s y) at z in
    placed_more l f x s y (equal_or (given_ups (l.equal x) old) (given_ups (l.equal x) new) (passing (l.equal x) (placed (empty f) s)) (k b x)
    (turn_equal l (placed (empty f) s) old (turn_after f s y) (inv f i s) (law_after l f i s b) x) (omega arith))

given_up_equal : (l : Law) (f : ℕ) → IsFirstCapacity f → (s : List Event) → GivenUpEqual l f s
given_up_equal l f i s = by_snoc (GivenUpEqual l f) (λ h x z. absurd (omega arith)) (given_up_snoc l f i) s

-- Classes

told_given_up : (p : ℕ → Bool) (t : Reply) → is_refusal t ≡ false → passing p (handed_back t) ≡ passing p (given_up t)
told_given_up p (ReplyRefused v) h = absurd (cc)
told_given_up p (ReplyFound e v) h = refl
told_given_up p _ h = refl

-- where no reply is a refusal, what was handed back was given up
back_given_up : (p : ℕ → Bool) (rs : List Finished) → list_any (λ (r : Finished). is_refusal r.reply) rs ≡ false → passing p (back rs) ≡ given_ups p rs
back_given_up p [] h = refl
back_given_up p (r ∷ rs) h =
    let k : (is_refusal r.reply ≡ false) × (list_any (λ (r : Finished). is_refusal r.reply) rs ≡ false) = or_parts _ _ h in
    omega (arith, weigh-append (λ u. one_if (p u)) (handed_back r.reply) (back rs), back_given_up p rs k.1, told_given_up p r.reply k.0)

done_runs : (p : Phase) (o : Outcome) → is_done p ≡ true → runs p o ≡ false
done_runs Done o h = refl
done_runs _ o h = absurd (cc)

-- where all calls have finished, no value is on its way
none_running : (cs : List Call) → list_all (λ (c : Call). is_done c.state.phase) cs ≡ true → running cs ≡ []
none_running [] h = refl
none_running (c ∷ cs) h =
    let k : (is_done c.state.phase ≡ true) × (list_all (λ (c : Call). is_done c.state.phase) cs ≡ true) = and_parts _ _ h in
    rw (done_runs c.state.phase c.state.outcome k.0) (none_running cs k.1)

-- the values of a class that were placed or handed back, where each of those handed back has an equal that was placed
one_each : (b : Bool) (given back placed : ℕ) → (b ≡ true → 1 ≤ given) → (b ≡ false → given ≡ 0) → given ≡ back + placed → (1 ≤ back → 1 ≤ placed) → placed ≤ 1 → placed ≡ one_if b
one_each false given back placed f g e h le = omega (arith, g refl, e)
one_each true given zero placed f g e h le = omega (arith, f refl, e)
one_each true given (suc back) placed f g e h le = omega (arith, h (omega arith))

-- each class of the values handed in has exactly one entry, and there are no other entries
classes_weigh : (l : Law) (f : ℕ) (s : List Event) → IsFirstCapacity f → IsSettled l f s → (x : ℕ) → passing (l.equal x) (kept (after f s)) ≡ one_if (list_any (l.equal x) (given (empty f) s))
classes_weigh l f s i q x =
    let p = l.equal x in
    let kept_placed : passing p (kept (after f s)) ≡ passing p (placed (empty f) s) = kept_weighs f s i (λ u. one_if (p u)) in
    let none : running (after f s).calls ≡ [] = none_running (after f s).calls q.finished in
    let stay : passing p (given (empty f) s) ≡ passing p (back (replies (empty f) s) ++ kept (after f s) ++ running (after f s).calls) = values_weigh f s i (λ u. one_if (p u)) in
    let here : passing p (given (empty f) s) ≡ passing p ((back (replies (empty f) s) ++ kept (after f s)) ++ []) = rw none at stay in
    let end : passing p ((back (replies (empty f) s) ++ kept (after f s)) ++ []) ≡ passing p (back (replies (empty f) s) ++ kept (after f s)) + 0 = weigh-append (λ u. one_if (p u)) (back (replies (empty f) s) ++ kept (after f s)) [] in
    let split : passing p (back (replies (empty f) s) ++ kept (after f s)) ≡ passing p (back (replies (empty f) s)) + passing p (kept (after f s)) = weigh-append (λ u. one_if (p u)) (back (replies (empty f) s)) (kept (after f s)) in
    let up : passing p (back (replies (empty f) s)) ≡ given_ups p (replies (empty f) s) = back_given_up p (replies (empty f) s) q.unrefused in
    kept_placed ∙ one_each (list_any p (given (empty f) s)) (passing p (given (empty f) s)) (given_ups p (replies (empty f) s)) (passing p (placed (empty f) s))
    (any_passes p (given (empty f) s)) (none_passing p (given (empty f) s)) (omega arith) (given_up_equal l f i s q.lawful x) (placed_once_each l f s i q.lawful x)

one-if : (b : Bool) → one_if b ≡ (if b then 1 else 0)
one-if true = refl
one-if false = refl

pub classes : (l : Law) (f : ℕ) (s : List Event) → IsFirstCapacity f → Classes l f s
classes l f s i q x = count_by-weigh (l.equal x) (kept (after f s)) ∙ classes_weigh l f s i q x ∙ one-if (list_any (l.equal x) (given (empty f) s))

same_any : (p q : ℕ → Bool) (xs : List ℕ) → ((u : ℕ) → p u ≡ q u) → list_any p xs ≡ list_any q xs
same_any p q [] h = refl
same_any p q (x ∷ xs) h = rw (h x, same_any p q xs h) refl

same_passing : (p q : ℕ → Bool) (xs : List ℕ) → ((u : ℕ) → p u ≡ q u) → passing p xs ≡ passing q xs
same_passing p q [] h = refl
same_passing p q (x ∷ xs) h = omega (arith, ap one_if (h x), same_passing p q xs h)

-- what one of two lists of the same values passes, one of the other does
any_bag : (p : ℕ → Bool) (xs ys : List ℕ) (a b : Bool) → list_any p xs ≡ a → list_any p ys ≡ b → passing p xs ≡ passing p ys → a ≡ b
any_bag p xs ys true true h k e = refl
any_bag p xs ys false false h k e = refl
any_bag p xs ys true false h k e = absurd (omega (arith, any_passes p xs h, none_passing p ys k))
any_bag p xs ys false true h k e = absurd (omega (arith, any_passes p ys k, none_passing p xs h))

-- two such schedules of the same inserts have the same classes
pub same_classes : (l : Law) (f : ℕ) (s : List Event) (k : Law) (g : ℕ) (t : List Event) → IsFirstCapacity f → IsFirstCapacity g → SameClasses l f s k g t
same_classes l f s k g t i j q r e b x =
    let here = classes_weigh l f s i q x in
    let there = classes_weigh k g t j r x in
    let same : list_any (l.equal x) (given (empty f) s) ≡ list_any (k.equal x) (given (empty g) t) =
    any_bag (l.equal x) (given (empty f) s) (given (empty g) t) _ _ refl refl (same_weights (given (empty f) s) (given (empty g) t) b (λ u. one_if (l.equal x u))) ∙ same_any (l.equal x) (k.equal x) (given (empty g) t) (e x) in
    count_by-weigh (l.equal x) (kept (after f s)) ∙ here ∙ (ap one_if same ∙ (sym there ∙ sym (same_passing (l.equal x) (k.equal x) (kept (after g t)) (e x)))) ∙ sym (count_by-weigh (l.equal x) (kept (after g t)))
