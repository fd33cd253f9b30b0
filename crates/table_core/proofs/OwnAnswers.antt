-- A call is told its own value, and only an entry that it has accepted.
use Rattle.std.proofs.Common.{ℕ, ◌≡◌, ◌++◌, inl, inr, List, [], ◌∷◌, Bool, true, refl, Option, Some, None, sym, subst, ap, ◌∙◌}
use Rattle.std.specs.Prelude.{◌==◌}
use Rattle.std.specs.List.{slice_get}
use Rattle.table_core.specs.Replies.{Reply, ReplyPlaced, ReplyFound, ReplyRefused, ReplySome, Finished}
use Rattle.table_core.specs.Generations.{Gen, Table, gen_of, bucket_in}
use Rattle.table_terms.specs.Hashes.{bits_of}
use Rattle.table_core.specs.Calls.{Call, starts, finds_entry}
use Rattle.table_core.specs.Machine.{World, empty, walked_gen, bucket_of, refused, found_entry, reply_of_outcome, Act, Goes, acts, finished_call, after}
use Rattle.table_core.specs.History.{replies, placed, TakenEvent, bucket_then}
use Rattle.table_core.specs.Steps.{is_accepted, Row, loads_none, loads, meets, loses_meets, adds, leaves_refused, small, ends, ends_failed, gives_up, looks_none, looks, look_empty, look_meets, look_turns, look_turns_unasked, len_none, len_loads, len_size, walk_none, walk_loads, walk_skips_last, walk_takes_last, left}
use Rattle.table_core.specs.declared.event.Event.{Event}
use Rattle.table_core.specs.declared.event.Event.TheVariants.{Read, Put}
use Rattle.table_core.specs.declared.generation.Entry.{Entry}
use Rattle.table_core.specs.declared.call.CallState.{CallState}
use Rattle.table_core.specs.declared.call.Phase.{Phase}
use Rattle.table_core.specs.declared.call.Phase.TheVariants.{Shared, LeaveOk, LookLoad, LenLoad, WalkLoad, Done}
use Rattle.table_core.specs.declared.call.Outcome.{Outcome}
use Rattle.table_core.specs.declared.call.Outcome.TheVariants.{Pending, New, Existing}
use Rattle.table_core.specs.declared.call.Answer.{Answer}
use Rattle.table_core.proofs.Lists.{get-set, get-push}
use Rattle.std.proofs.lemmas.Bool.{eqb-true}
use Rattle.std.specs.Option.{is_some}
use Rattle.table_core.specs.Values.{says_yes, SaysYes, entry_named, AcceptedEntry, IsOwn, IsOwnAnswer, OwnAnswers}
use Rattle.table_core.proofs.Turns.{Turn, rests, opens, takes}
use Rattle.table_core.proofs.Facts.{AllGrew, Inv}
use Rattle.table_core.proofs.Standing.{fitting}
use Rattle.table_core.proofs.Contents.{fit_at, turn_grew}
use Rattle.table_core.proofs.Tracks.{load_outcome}
use Rattle.table_core.proofs.Lawful.{entry_stays}
use Rattle.table_core.proofs.Pasts.{turn_after, by_snoc, taken_now, taken_later}
use Rattle.table_core.proofs.Beginnings.{row_own}
use Rattle.std.proofs.lemmas.Bool.{and_parts}

-- Accepted entries

-- an entry that the call has accepted, which is there still
record Accepted (f : ℕ) (s : List Event) (gens : List Gen) (c : Call) (k : ℕ) : Type 0 where
  at : TakenEvent f s c.number
  entry : Entry
  accepted : SaysYes at.event at.call.state entry
  there : bucket_then f s c.number at ≡ Some entry
  now : bucket_in (gen_of gens c.state.walked) k ≡ Some entry

accepted_later : (f : ℕ) (s : List Event) (x : Event) (gens now : List Gen) (c : Call) (k : ℕ) → AllGrew gens now → Accepted f s gens c k → Accepted f (s ++ x ∷ []) now c k
accepted_later f s x gens now c k grew a = record {
  at = taken_later f s c.number a.at x;
  accepted = a.accepted;
  entry = a.entry;
  there = a.there;
  now = entry_stays gens now c.state.walked k a.entry grew a.now;
}

-- how a call comes to an accepted entry: it accepts one now, or it has one
data Meeting (w : World) (c : Call) (x : Event) (r : CallState) (k : ℕ) : Type 0 where
  meets_now : (e : Entry) → SaysYes x c.state e → bucket_of w.table c.state ≡ Some e → bucket_in (gen_of w.table.gens r.walked) k ≡ Some e → Meeting w c x r k
  met_before : c.state.outcome ≡ Existing k → r.walked ≡ c.state.walked → Meeting w c x r k

says_yes_to : (x : Event) (s : CallState) (e : Entry) (y : Bool) → says_yes x ≡ y → is_accepted e s y ≡ true → SaysYes x s e
says_yes_to x s e y q h =
    let both : ((e.bits == bits_of s.hash) ≡ true) × (y ≡ true) = and_parts (e.bits == bits_of s.hash) y h in
    record { yes = q ∙ both.1; bits = eqb-true e.bits (bits_of s.hash) both.0 }

meeting_now : (w : World) (c : Call) (p : Phase) (x : Event) (y : Bool) (e : Entry) (k : ℕ) → says_yes x ≡ y → bucket_of w.table c.state ≡ Some e → is_accepted e c.state y ≡ true → Existing c.state.index ≡ Existing k → Meeting w c x (finds_entry p c.state) k
meeting_now w c p x y e k q b h o =
    let i : c.state.index ≡ k = cc in
    meets_now e (says_yes_to x c.state e y q h) b (subst (λ j. bucket_in (gen_of w.table.gens c.state.walked) j ≡ Some e) i b)

row_meeting : (w : World) (c : Call) {p : Phase} {x : Event} {a : Answer} {r : CallState} {ls : List ℕ} {t : Table} {q : Option Reply} → Row w c p x a r ls t q → fitting (is_some c.value) p c.state.outcome ≡ true → (k : ℕ) → r.outcome ≡ Existing k → Meeting w c x r k
row_meeting w c (meets n y e b h) f k o = meeting_now w c LeaveOk (Read n y) y e k refl b h o
row_meeting w c (loses_meets n y e b h) f k o = meeting_now w c LeaveOk (Put n y true) y e k refl b h o
row_meeting w c (look_meets n y e b h) f k o = meeting_now w c Done (Read n y) y e k refl b h o
row_meeting w c (adds _) f k o = absurd (cc)
row_meeting w c (loads _ _ _) f k o = absurd (load_outcome Shared (λ i. (refl, refl)) (is_some c.value) c.state.outcome f k o)
row_meeting w c (loads_none _ _) f k o = absurd (load_outcome Shared (λ i. (refl, refl)) (is_some c.value) c.state.outcome f k o)
row_meeting w c (looks _ _ _) f k o = absurd (load_outcome LookLoad (λ i. (refl, refl)) (is_some c.value) c.state.outcome f k o)
row_meeting w c (len_loads _ _ _) f k o = absurd (load_outcome LenLoad (λ i. (refl, refl)) (is_some c.value) c.state.outcome f k o)
row_meeting w c (walk_loads _ _ _) f k o = absurd (load_outcome WalkLoad (λ i. (refl, refl)) (is_some c.value) c.state.outcome f k o)
row_meeting w c _ f k o = met_before o refl

module _ (f : ℕ) (inv : (s : List Event) → Inv (after f s) (placed (empty f) s) (replies (empty f) s)) where
  abbrev AllAccepted : List Event → World → Type 0
  AllAccepted s v = (i : ℕ) (c : Call) → slice_get v.calls i ≡ Some c → (k : ℕ) → c.state.outcome ≡ Existing k → Accepted f s v.table.gens c k

  accepted_moved : (s : List Event) (x : Event) (i : ℕ) (c : Call) (a : Answer) (r : CallState) (ls : List ℕ) (now : List Gen) (k : ℕ) → AllGrew (after f s).table.gens now → AllAccepted s (after f s) → slice_get (after f s).calls i ≡ Some c → acts (after f s) x ≡ Some (Goes c a) → Meeting (after f s) c x r k → Accepted f (s ++ x ∷ []) now (left c r ls) k
  accepted_moved s x i c a r ls now k grew m g took (meets_now e h b there) = record {
    at = taken_now f s x c.number c a took refl;
    accepted = h;
    entry = e;
    there = b;
    now = entry_stays (after f s).table.gens now r.walked k e grew there;
  }
  accepted_moved s x i c a r ls now k grew m g took (met_before o w) =
      let old = accepted_later f s x (after f s).table.gens now c k grew (m i c g k o) in
      record { at = old.at; accepted = old.accepted; entry = old.entry; there = old.there; now = subst (λ v. bucket_in (gen_of now v) k ≡ Some old.entry) (sym w) old.now }

  accepted_turn : (s : List Event) (x : Event) {v : World} {a : Option Act} {r : Option Finished} → Turn (after f s) x a v r → acts (after f s) x ≡ a → AllGrew (after f s).table.gens v.table.gens → AllAccepted s (after f s) → AllAccepted (s ++ x ∷ []) v
  accepted_turn s x rests took grew m i c g k o = accepted_later f s x _ _ c k grew (m i c g k o)
  accepted_turn s x (opens n v p h ra op us nv) took grew m i c g k o = elim (get-push (after f s).calls (starts n v p h) c i g) [
    | inl y ↦ absurd (let z : c.state.outcome ≡ Pending = ap (λ (d : Call). d.state.outcome) y.1 in let q : Pending ≡ Existing k = sym z ∙ o in cc)
    | inr y ↦ accepted_later f s x _ _ c k grew (m i c y k o)
  ]
  accepted_turn s x (takes i d p a st list t q g e row nu) took grew m j c y k o = elim (get-set (after f s).calls i j d (left d st list) c g y) [
    | inl z ↦ subst (λ b. Accepted f (s ++ x ∷ []) t.gens b k) (sym z.1) (accepted_moved s x i d a st list t.gens k grew m g took
        (row_meeting (after f s) d row (fit_at d _ p ((inv s).calls.at i d g) e) k (sym (ap (λ (b : Call). b.state.outcome) z.1) ∙ o)))
    | inr z ↦ accepted_later f s x _ _ c k grew (m j c z.1 k o)
  ]

  all_accepted : (s : List Event) → AllAccepted s (after f s)
  all_accepted = by_snoc (λ s. AllAccepted s (after f s)) (λ i c g k o. absurd (cc)) (λ s x m. accepted_turn s x (turn_after f s x) refl (turn_grew (turn_after f s x)) m)

-- The entry that a row tells

-- the entry that a call is told: it is accepted now, or it was
data Names (w : World) (c : Call) (x : Event) (e : ℕ) : Type 0 where
  names_now : (d : Entry) → SaysYes x c.state d → bucket_of w.table c.state ≡ Some d → d.value ≡ e → Names w c x e
  names_met : (k : ℕ) (d : Entry) → c.state.outcome ≡ Existing k → bucket_in (gen_of w.table.gens c.state.walked) k ≡ Some d → d.value ≡ e → Names w c x e

refused_names : (v : Option ℕ) (q : Reply) (e : ℕ) → refused v ≡ Some q → entry_named q ≡ Some e → ⊥
refused_names None q e h n = cc
refused_names (Some v) q e h n = let z : ReplyRefused v ≡ q = cc in let y : None ≡ Some e = ap entry_named z ∙ n in cc

found_names : (d : Option Entry) (v : ℕ) (q : Reply) (e : ℕ) → found_entry d v ≡ Some q → entry_named q ≡ Some e → (b : Entry) × (d ≡ Some b) × (b.value ≡ e)
found_names None v q e h n = absurd (cc)
found_names (Some d) v q e h n = let z : ReplyFound d.value v ≡ q = cc in let y : Some d.value ≡ Some e = ap entry_named z ∙ n in (d, refl, cc)

outcome_names : (w : World) (c : Call) (x : Event) (o : Outcome) (v : Option ℕ) (q : Reply) (e : ℕ) → c.state.outcome ≡ o → reply_of_outcome o w.table c.state v ≡ Some q → entry_named q ≡ Some e → Names w c x e
outcome_names w c a (Existing k) (Some v) q e o h n = let b = found_names (bucket_in (walked_gen w.table c.state) k) v q e h n in names_met k b.0 o b.1 b.2
outcome_names w c a (New k) (Some v) q e o h n = absurd (let z : ReplyPlaced v ≡ q = cc in let y : None ≡ Some e = ap entry_named z ∙ n in cc)
outcome_names w c a Pending v q e o h n = absurd (cc)
outcome_names w c a (New k) None q e o h n = absurd (cc)
outcome_names w c a (Existing k) None q e o h n = absurd (cc)

no_entry : (q z : Reply) (e : ℕ) → Some q ≡ Some z → entry_named q ≡ None → entry_named z ≡ Some e → ⊥
no_entry q z e h n k = let y : q ≡ z = cc in let j : None ≡ Some e = sym n ∙ ap entry_named y ∙ k in cc

row_names : (w : World) (c : Call) {p : Phase} {x : Event} {a : Answer} {r : CallState} {ls : List ℕ} {t : Table} {o : Option Reply} → Row w c p x a r ls t o → (q : Reply) → o ≡ Some q → (e : ℕ) → entry_named q ≡ Some e → Names w c x e
row_names w c (look_meets n y d b h) q k e m =
    let z : ReplySome d.value ≡ q = cc in
    let v : Some d.value ≡ Some e = ap entry_named z ∙ m in
    names_now d (says_yes_to (Read n y) c.state d y refl h) b (cc)
row_names w c (small n g k d) q h e m = outcome_names w c _ c.state.outcome c.value q e refl h m
row_names w c (ends n k) q h e m = outcome_names w c _ c.state.outcome c.value q e refl h m
row_names w c (ends_failed n k) q h e m = outcome_names w c _ c.state.outcome c.value q e refl h m
row_names w c (leaves_refused n) q h e m = absurd (refused_names c.value q e h m)
row_names w c (gives_up n k d) q h e m = absurd (refused_names c.value q e h m)
row_names w c (looks_none n k) q h e m = absurd (no_entry _ q e h refl m)
row_names w c (look_empty n y k) q h e m = absurd (no_entry _ q e h refl m)
row_names w c (look_turns n y d k b lt) q h e m = absurd (no_entry _ q e h refl m)
row_names w c (look_turns_unasked n y d k b lt) q h e m = absurd (no_entry _ q e h refl m)
row_names w c (len_none n k) q h e m = absurd (no_entry _ q e h refl m)
row_names w c (len_size n g k) q h e m = absurd (no_entry _ q e h refl m)
row_names w c (walk_none n k) q h e m = absurd (no_entry _ q e h refl m)
row_names w c (walk_skips_last n y k lt) q h e m = absurd (no_entry _ q e h refl m)
row_names w c (walk_takes_last n y d k lt) q h e m = absurd (no_entry _ q e h refl m)
row_names w c _ q h e m = absurd (cc)

-- a reply tells its call what the row tells
pub reply_by_row : (m : ℕ) (o : Option Reply) (r : Finished) → finished_call m o ≡ Some r → (o ≡ Some r.reply) × (m ≡ r.call)
reply_by_row m None r h = absurd (cc)
reply_by_row m (Some z) r h = let e : record { call = m; reply = z } ≡ r = cc in (ap Some (ap (λ (r : Finished). r.reply) e), ap (λ (r : Finished). r.call) e)

module _ (f : ℕ) (inv : (s : List Event) → Inv (after f s) (placed (empty f) s) (replies (empty f) s)) where
  entry_accepted : (s : List Event) (x : Event) (i : ℕ) (c : Call) (a : Answer) (e : ℕ) → slice_get (after f s).calls i ≡ Some c → acts (after f s) x ≡ Some (Goes c a) → Names (after f s) c x e → AcceptedEntry f (s ++ x ∷ []) c.number e
  entry_accepted s x i c a e g took (names_now d h b v) = record {
    at = taken_now f s x c.number c a took refl;
    accepted = h;
    entry = d;
    there = b;
    value = v;
  }
  entry_accepted s x i c a e g took (names_met k d o b v) =
      let m = all_accepted f inv s i c g k o in
      let same : m.entry ≡ d = (let y : Some m.entry ≡ Some d = sym m.now ∙ b in cc) in
      record {
        at = taken_later f s c.number m.at x;
        accepted = m.accepted;
        entry = m.entry;
        there = m.there;
        value = ap (λ (z : Entry). z.value) same ∙ v;
      }

  own_turn : (s : List Event) (x : Event) (r : Finished) {v : World} {a : Option Act} {o : Option Finished} → Turn (after f s) x a v o → acts (after f s) x ≡ a → o ≡ Some r → IsOwnAnswer f s x r
  own_turn s x r rests took h = absurd (cc)
  own_turn s x r (opens _ _ _ _ _ _ _ _) took h = absurd (cc)
  own_turn s x r (takes i c p a st ls t o g e row nu) took h =
      let reply : (o ≡ Some r.reply) × (c.number ≡ r.call) = reply_by_row c.number o r h in
      record {
        own = subst (λ n. IsOwn f s (record { call = n; reply = r.reply })) reply.1 (row_own f s i c row e g r.reply reply.0);
        accepted = λ e k. subst (λ n. AcceptedEntry f (s ++ x ∷ []) n e) reply.1 (entry_accepted s x i c a e g took (row_names (after f s) c row r.reply reply.0 e k));
      }

  pub own_answers : (s : List Event) (x : Event) (r : Finished) → OwnAnswers f s x r
  own_answers s x r h = own_turn s x r (turn_after f s x) refl h
