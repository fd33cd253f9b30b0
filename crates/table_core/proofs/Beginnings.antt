-- Each call has begun once, by one event of the schedule, and is told what it asked for there.
use Rattle.std.proofs.Common.{ℕ, ◌≡◌, ◌++◌, ◌⊎◌, inl, inr, List, [], ◌∷◌, true, false, refl, Option, Some, None, sym, subst, ap, ◌∙◌}
use Rattle.std.specs.Prelude.{◌==◌}
use Rattle.std.specs.List.{slice_get}
use Rattle.table_core.specs.Replies.{Reply, ReplyPlaced, ReplyFound, ReplyRefused, ReplySome, ReplyNone, ReplyLen, ReplyWalk, Finished}
use Rattle.table_core.specs.Generations.{Table, bucket_in}
use Rattle.table_core.specs.Phases.{ALookup, ALength, AWalk, about}
use Rattle.table_core.specs.Calls.{Call, starts, is_done}
use Rattle.table_core.specs.Machine.{World, empty, walked_gen, refused, found_entry, reply_of_outcome, Act, acts, after, run}
use Rattle.table_core.specs.History.{begun_by, beginnings}
use Rattle.table_core.specs.Steps.{Row, leaves_refused, small, ends, ends_failed, gives_up, looks_none, look_empty, look_meets, look_turns, look_turns_unasked, len_none, len_size, walk_none, walk_skips_last, walk_takes_last, Opens, opens_insert, opens_lookup, opens_len, opens_walk, left}
use Rattle.table_core.specs.declared.event.Event.{Event}
use Rattle.table_core.specs.declared.event.Event.TheVariants.{Insert}
use Rattle.table_core.specs.declared.generation.Entry.{Entry}
use Rattle.table_core.specs.declared.call.CallState.{CallState}
use Rattle.table_core.specs.declared.call.Phase.{Phase}
use Rattle.table_core.specs.declared.call.Phase.TheVariants.{WantShared, LookLoad, LenLoad, WalkLoad}
use Rattle.table_core.specs.declared.call.Outcome.{Outcome}
use Rattle.table_core.specs.declared.call.Outcome.TheVariants.{Pending, New, Existing}
use Rattle.table_core.specs.declared.call.Answer.{Answer}
use Rattle.table_core.specs.Values.{MayTell, IsOwn}
use Rattle.table_core.proofs.Lists.{get-set, get-push}
use Rattle.table_core.proofs.Turns.{Turn, rests, opens, takes}
use Rattle.table_core.proofs.Numbers.{unused_at}
use Rattle.table_core.proofs.FewReads.{other_number, unused_do_nothing, begins_other, begins_own}
use Rattle.table_core.proofs.Pasts.{turn_after, beginnings_append, beginnings_snoc, by_snoc}
use Rattle.table_core.proofs.Callings.{row_not_done}

-- the phase in which a call in this one began; where any call can be in it, that of an insert
abbrev opening : Phase → Phase
opening p = elim (about p).caller [ ALookup ↦ LookLoad | ALength ↦ LenLoad | AWalk ↦ WalkLoad | _ ↦ WantShared ]

row_opening : (w : World) (c : Call) {p : Phase} {x : Event} {a : Answer} {r : CallState} {ls : List ℕ} {t : Table} {q : Option Reply} → Row w c p x a r ls t q → (opening r.phase ≡ opening p) ⊎ (is_done r.phase ≡ true)
row_opening w c (looks_none _ _) = inr refl
row_opening w c (look_empty _ _ _) = inr refl
row_opening w c (look_meets _ _ _ _ _) = inr refl
row_opening w c (look_turns _ _ _ _ _ _) = inr refl
row_opening w c (look_turns_unasked _ _ _ _ _ _) = inr refl
row_opening w c (len_none _ _) = inr refl
row_opening w c (len_size _ _ _) = inr refl
row_opening w c (walk_none _ _) = inr refl
row_opening w c (walk_skips_last _ _ _ _) = inr refl
row_opening w c (walk_takes_last _ _ _ _ _) = inr refl
row_opening w c _ = inl refl

-- the one event at which a call began
pub record Began (f : ℕ) (s : List Event) (c : Call) : Type 0 where
  pub start : Event
  pub first : Phase
  pub hash : ℕ
  pub once : beginnings (empty f) s c.number ≡ start ∷ []
  pub opened : Opens start c.number c.value first hash
  pub since : (opening c.state.phase ≡ first) ⊎ (is_done c.state.phase ≡ true)

abbrev AllBegan : ℕ → List Event → World → Type 0
AllBegan f s v = (i : ℕ) (c : Call) → slice_get v.calls i ≡ Some c → Began f s c

began_later : (f : ℕ) (s : List Event) (x : Event) (c : Call) → begun_by (acts (after f s) x) x c.number ≡ [] → Began f s c → Began f (s ++ x ∷ []) c
began_later f s x c n b = record {
  start = b.start;
  first = b.first;
  hash = b.hash;
  once = beginnings_snoc f s x c.number ∙ rw (n, b.once) refl;
  opened = b.opened;
  since = b.since;
}

opening_first : {x : Event} {n : ℕ} {v : Option ℕ} {p : Phase} {h : ℕ} → Opens x n v p h → opening p ≡ p
opening_first (opens_insert _ _ _) = refl
opening_first (opens_lookup _ _) = refl
opening_first (opens_len _) = refl
opening_first (opens_walk _) = refl

began_now : (f : ℕ) (s : List Event) (x : Event) (n : ℕ) (v : Option ℕ) (p : Phase) (h : ℕ) → Opens x n v p h → beginnings (empty f) s n ≡ [] → begun_by (acts (after f s) x) x n ≡ x ∷ [] → Began f (s ++ x ∷ []) (starts n v p h)
began_now f s x n v p h op none own = record {
  start = x;
  first = p;
  hash = h;
  once = beginnings_snoc f s x n ∙ rw (none, own) refl;
  opened = op;
  since = inl (opening_first op);
}

-- a row keeps a call's number and its value
began_moved : (f : ℕ) (s : List Event) (w : World) (c : Call) {p : Phase} {x : Event} {a : Answer} {r : CallState} {ls : List ℕ} {t : Table} {q : Option Reply} → Row w c p x a r ls t q → c.state.phase ≡ p → Began f s c → Began f s (left c r ls)
began_moved f s w c {p = p} {r = r} row e b = record {
  start = b.start;
  first = b.first;
  hash = b.hash;
  once = b.once;
  opened = b.opened;
  since = elim b.since [
    | inl k ↦ (let o : opening p ≡ b.first = subst (λ z. opening z ≡ b.first) e k in elim (row_opening w c row) [ inl y ↦ inl (y ∙ o) | inr y ↦ inr y ])
    | inr k ↦ absurd (let z : is_done p ≡ true = subst (λ z. is_done z ≡ true) e k in let y : is_done p ≡ false = row_not_done w c row in cc)
  ];
}

began_turn : (f : ℕ) (s : List Event) (x : Event) {v : World} {a : Option Act} {r : Option Finished} → Turn (after f s) x a v r → acts (after f s) x ≡ a → AllBegan f s (after f s) → AllBegan f (s ++ x ∷ []) v
began_turn f s x rests took m i c g = began_later f s x c (rw took refl) (m i c g)
began_turn f s x (opens n v p h ra op us nv) took m i c g = elim (get-push (after f s).calls (starts n v p h) c i g) [
  | inl y ↦ subst (λ d. Began f (s ++ x ∷ []) d) (sym y.1) (began_now f s x n v p h op (unused_do_nothing f s n us).begun (rw took (begins_own op)))
  | inr y ↦ (let other : (n == c.number) ≡ false = other_number n c.number (λ e. unused_at n (after f s).calls i c us y (sym e)) in
      began_later f s x c (rw took (begins_other op c.number other)) (m i c y))
]
began_turn f s x (takes i d p a st list t q g e row nu) took m j c y = elim (get-set (after f s).calls i j d (left d st list) c g y) [
  | inl z ↦ subst (λ b. Began f (s ++ x ∷ []) b) (sym z.1) (began_later f s x (left d st list) (rw took refl) (began_moved f s (after f s) d row e (m i d g)))
  | inr z ↦ began_later f s x c (rw took refl) (m j c z.1)
]

pub all_began : (f : ℕ) (s : List Event) → AllBegan f s (after f s)
all_began f = by_snoc (λ s. AllBegan f s (after f s)) (λ i c g. absurd (cc)) (λ s x m. began_turn f s x (turn_after f s x) refl m)

-- What a row tells

abbrev value_told : Reply → Option ℕ
value_told (ReplyPlaced v) = Some v
value_told (ReplyFound e v) = Some v
value_told (ReplyRefused v) = Some v
value_told _ = None

refused_own : (v : Option ℕ) (q : Reply) → refused v ≡ Some q → v ≡ value_told q
refused_own None q h = absurd (cc)
refused_own (Some v) q h = let z : ReplyRefused v ≡ q = cc in ap value_told z

found_own : (d : Option Entry) (v : ℕ) (q : Reply) → found_entry d v ≡ Some q → Some v ≡ value_told q
found_own None v q h = absurd (cc)
found_own (Some d) v q h = let z : ReplyFound d.value v ≡ q = cc in ap value_told z

outcome_own : (o : Outcome) (t : Table) (s : CallState) (v : Option ℕ) (q : Reply) → reply_of_outcome o t s v ≡ Some q → v ≡ value_told q
outcome_own (New i) t s (Some v) q h = let z : ReplyPlaced v ≡ q = cc in ap value_told z
outcome_own (Existing i) t s (Some v) q h = found_own (bucket_in (walked_gen t s) i) v q h
outcome_own Pending t s v q h = absurd (cc)
outcome_own (New i) t s None q h = absurd (cc)
outcome_own (Existing i) t s None q h = absurd (cc)

insert_tells : (n v h : ℕ) (q : Reply) → Some v ≡ value_told q → MayTell (Insert n v h) q
insert_tells n v h (ReplyPlaced u) e = cc
insert_tells n v h (ReplyFound d u) e = cc
insert_tells n v h (ReplyRefused u) e = cc
insert_tells n v h _ e = absurd (cc)

tells_value : {x : Event} {n : ℕ} {v : Option ℕ} {p : Phase} {h : ℕ} → Opens x n v p h → WantShared ≡ p → (q : Reply) → v ≡ value_told q → MayTell x q
tells_value (opens_insert n v h) e q k = insert_tells n v h q k
tells_value (opens_lookup _ _) e q k = absurd (cc)
tells_value (opens_len _) e q k = absurd (cc)
tells_value (opens_walk _) e q k = absurd (cc)

tells_none : {x : Event} {n : ℕ} {v : Option ℕ} {p : Phase} {h : ℕ} → Opens x n v p h → LookLoad ≡ p → MayTell x ReplyNone
tells_none (opens_lookup _ _) e = tt
tells_none (opens_insert _ _ _) e = absurd (cc)
tells_none (opens_len _) e = absurd (cc)
tells_none (opens_walk _) e = absurd (cc)

tells_some : {x : Event} {n : ℕ} {v : Option ℕ} {p : Phase} {h : ℕ} → Opens x n v p h → LookLoad ≡ p → (e : ℕ) → MayTell x (ReplySome e)
tells_some (opens_lookup _ _) e d = tt
tells_some (opens_insert _ _ _) e d = absurd (cc)
tells_some (opens_len _) e d = absurd (cc)
tells_some (opens_walk _) e d = absurd (cc)

tells_len : {x : Event} {n : ℕ} {v : Option ℕ} {p : Phase} {h : ℕ} → Opens x n v p h → LenLoad ≡ p → (k : ℕ) → MayTell x (ReplyLen k)
tells_len (opens_len _) e k = tt
tells_len (opens_insert _ _ _) e k = absurd (cc)
tells_len (opens_lookup _ _) e k = absurd (cc)
tells_len (opens_walk _) e k = absurd (cc)

tells_walk : {x : Event} {n : ℕ} {v : Option ℕ} {p : Phase} {h : ℕ} → Opens x n v p h → WalkLoad ≡ p → (es : List ℕ) → MayTell x (ReplyWalk es)
tells_walk (opens_walk _) e es = tt
tells_walk (opens_insert _ _ _) e es = absurd (cc)
tells_walk (opens_lookup _ _) e es = absurd (cc)
tells_walk (opens_len _) e es = absurd (cc)

told_so : (x : Event) (z q : Reply) → Some z ≡ Some q → MayTell x z → MayTell x q
told_so x z q h k = let e : z ≡ q = cc in subst (MayTell x) e k

pub row_tells : (w : World) (c : Call) {p : Phase} {x : Event} {a : Answer} {r : CallState} {ls : List ℕ} {t : Table} {o : Option Reply} → Row w c p x a r ls t o → {y : Event} {n : ℕ} {f : Phase} {h : ℕ} → Opens y n c.value f h → opening p ≡ f → (q : Reply) → o ≡ Some q → MayTell y q
row_tells w c (leaves_refused _) op e q k = tells_value op e q (refused_own c.value q k)
row_tells w c (gives_up _ _ _) op e q k = tells_value op e q (refused_own c.value q k)
row_tells w c (small _ _ _ _) op e q k = tells_value op e q (outcome_own c.state.outcome w.table c.state c.value q k)
row_tells w c (ends _ _) op e q k = tells_value op e q (outcome_own c.state.outcome w.table c.state c.value q k)
row_tells w c (ends_failed _ _) op e q k = tells_value op e q (outcome_own c.state.outcome w.table c.state c.value q k)
row_tells w c (looks_none _ _) op e q k = told_so _ _ q k (tells_none op e)
row_tells w c (look_empty _ _ _) op e q k = told_so _ _ q k (tells_none op e)
row_tells w c (look_turns _ _ _ _ _ _) op e q k = told_so _ _ q k (tells_none op e)
row_tells w c (look_turns_unasked _ _ _ _ _ _) op e q k = told_so _ _ q k (tells_none op e)
row_tells w c (look_meets _ _ d _ _) op e q k = told_so _ _ q k (tells_some op e d.value)
row_tells w c (len_none _ _) op e q k = told_so _ _ q k (tells_len op e 0)
row_tells w c (len_size _ g _) op e q k = told_so _ _ q k (tells_len op e g.size)
row_tells w c (walk_none _ _) op e q k = told_so _ _ q k (tells_walk op e [])
row_tells w c (walk_skips_last _ _ _ _) op e q k = told_so _ _ q k (tells_walk op e c.list)
row_tells w c (walk_takes_last _ _ d _ _) op e q k = told_so _ _ q k (tells_walk op e (c.list ++ d.value ∷ []))
row_tells w c _ op e q k = absurd (cc)

tells_placed : {x : Event} {n : ℕ} {o : Option ℕ} {p : Phase} {h : ℕ} → Opens x n o p h → (v : ℕ) → o ≡ Some v → MayTell x (ReplyPlaced v)
tells_placed (opens_insert n u h) v e = cc
tells_placed (opens_lookup _ _) v e = absurd (cc)
tells_placed (opens_len _) v e = absurd (cc)
tells_placed (opens_walk _) v e = absurd (cc)

-- what a row tells is its call's own
pub row_own : (f : ℕ) (s : List Event) (i : ℕ) (c : Call) {p : Phase} {x : Event} {a : Answer} {r : CallState} {ls : List ℕ} {t : Table} {o : Option Reply} → Row (after f s) c p x a r ls t o → c.state.phase ≡ p → slice_get (after f s).calls i ≡ Some c → (q : Reply) → o ≡ Some q → IsOwn f s (record { call = c.number; reply = q })
row_own f s i c {p = p} row e g q k =
    let b = all_began f s i c g in
    let since : opening p ≡ b.first = elim b.since [
      | inl y ↦ subst (λ z. opening z ≡ b.first) e y
      | inr y ↦ absurd (let z : is_done p ≡ true = subst (λ z. is_done z ≡ true) e y in let n : is_done p ≡ false = row_not_done (after f s) c row in cc)
    ] in
    record { start = b.start; once = b.once; reply = row_tells (after f s) c row b.opened since q k }

-- a reply stays its call's own: the call is there, so it has begun once
one_list : (x y : Event) (more : List Event) → (x ∷ []) ++ more ≡ y ∷ [] → x ∷ [] ≡ y ∷ []
one_list x y more h = cc

pub own_later : (f : ℕ) (s more : List Event) (r : Finished) (i : ℕ) (c : Call) → slice_get (after f (s ++ more)).calls i ≡ Some c → c.number ≡ r.call → IsOwn f s r → IsOwn f (s ++ more) r
own_later f s more r i c g e o =
    let b = all_began f (s ++ more) i c g in
    let once : beginnings (empty f) (s ++ more) r.call ≡ b.start ∷ [] = subst (λ n. beginnings (empty f) (s ++ more) n ≡ b.start ∷ []) e b.once in
    let cut : beginnings (empty f) s r.call ++ beginnings (run (empty f) s) more r.call ≡ b.start ∷ [] = sym (beginnings_append s more (empty f) r.call) ∙ once in
    let same : o.start ∷ [] ≡ b.start ∷ [] = one_list o.start b.start (beginnings (run (empty f) s) more r.call) (rw o.once at cut) in
    record { start = o.start; once = once ∙ sym same; reply = o.reply }

-- an insert that is there has begun with its value
pub placed_own : (f : ℕ) (s : List Event) (i : ℕ) (c : Call) (v : ℕ) → slice_get (after f s).calls i ≡ Some c → c.value ≡ Some v → IsOwn f s (record { call = c.number; reply = ReplyPlaced v })
placed_own f s i c v g e =
    let b = all_began f s i c g in
    record { start = b.start; once = b.once; reply = tells_placed b.opened v e }
