-- One event at the place of its call, as the code takes it.
use Rattle.std.proofs.Common.{ℕ, suc, zero, ◌≡◌, ◌<◌, List, [], ◌∷◌, true, refl, Option, Some, None, length, sym, ap, arith, ◌∙◌}
use Rattle.std.specs.Prelude.{slice_set}
use Rattle.std.specs.List.{slice_get}
use Rattle.std.specs.Option.{option_map}
use Rattle.table_core.specs.Replies.{Reply, ReplyWalk, reply_of}
use Rattle.table_core.specs.declared.reply.Reply.{Reply as RustReply}
use Rattle.table_core.specs.Generations.{Table}
use Rattle.table_core.specs.Calls.{Call, decided, decide, fits}
use Rattle.table_core.specs.Machine.{kept_list, list_in, last_reply, reply_at_end, reply_in, reply, call_after, with_entry, walked_entry, walked_list}
use Rattle.table_core.specs.declared.generation.Entry.{Entry}
use Rattle.table_core.specs.declared.call.CallState.{CallState}
use Rattle.table_core.specs.declared.call.Phase.{Phase}
use Rattle.table_core.specs.declared.call.Phase.TheVariants.{WalkAt, Done}
use Rattle.table_core.specs.declared.call.Answer.{Answer}
use Rattle.table_core.proofs.Lists.{get-set_same}
use Rattle.std.proofs.lemmas.List.{length-set}

pub set_same : {X : Type 0} (xs : List X) (i : ℕ) (x : X) → slice_get xs i ≡ Some x → xs ≡ slice_set xs i x
set_same [] i x h = refl
set_same (y ∷ xs) zero x h = let e : y ≡ x = cc in ap (λ z. z ∷ xs) e
set_same (y ∷ xs) (suc i) x h = ap (λ ys. y ∷ ys) (set_same xs i x h)

pub set_set : {X : Type 0} (xs : List X) (i : ℕ) (x y : X) → slice_set (slice_set xs i x) i y ≡ slice_set xs i y
set_set [] i x y = refl
set_set (z ∷ xs) zero x y = refl
set_set (z ∷ xs) (suc i) x y = ap (λ ys. z ∷ ys) (set_set xs i x y)

-- an answer that fits decides
pub decide_fits : (s : CallState) (a : Answer) → fits s.phase s a ≡ true → decide s a ≡ decided s.phase s a
decide_fits s a h = rw h refl

decide_at : (c : Call) (a : Answer) → c.state.phase ≡ WalkAt → fits c.state.phase c.state a ≡ true → decide c.state a ≡ decided WalkAt c.state a
decide_at c a e h = decide_fits c.state a h ∙ ap (λ p. decided p c.state a) e

-- a walk after its bucket
pub walk_after : (t : Table) (c : Call) (a : Answer) → c.state.phase ≡ WalkAt → fits c.state.phase c.state a ≡ true →
    record c { list = kept_list (decide c.state a).phase (walked_list t c a); state = decide c.state a } ≡ call_after t c a
walk_after t c a e h =
    let l : kept_list (decide c.state a).phase (walked_list t c a) ≡ list_in c.state.phase t c a =
    ap (λ (s : CallState). kept_list s.phase (walked_list t c a)) (decide_at c a e h) ∙ ap (λ p. list_in p t c a) (sym e) in
    ap (λ list. record c { list = list; state = decide c.state a }) l ∙ ap (λ s. record c { list = list_in c.state.phase t c a; state = s }) (decide_fits c.state a h)

pub walk_is_told : (t : Table) (c : Call) (a : Answer) → c.state.phase ≡ WalkAt → fits c.state.phase c.state a ≡ true →
    reply_at_end (decide c.state a).phase (Some (ReplyWalk (walked_list t c a))) ≡ reply t c a
walk_is_told t c a e h =
    ap (λ (s : CallState). reply_at_end s.phase (Some (ReplyWalk (walked_list t c a)))) (decide_at c a e h) ∙ ap (λ p. reply_in p t c a) (sym e)

-- a walk whose list takes an entry and whose state is the next
pub walk_moves : (t : Table) (cs mid now : List Call) (i : ℕ) (c : Call) (a : Answer) (s n : CallState) (o : Option Entry) → slice_get cs i ≡ Some c → c.state.phase ≡ WalkAt → fits c.state.phase c.state a ≡ true →
    s ≡ c.state → o ≡ walked_entry t s a → n ≡ decide s a → mid ≡ slice_set cs i (record c { list = with_entry c.list o }) →
    ((d : Call) → slice_get mid i ≡ Some d → now ≡ slice_set mid i (record d { list = kept_list n.phase d.list; state = n })) →
    now ≡ slice_set cs i (call_after t c a)
walk_moves t cs mid now i c a s n o g e h p q r x y =
    let d : Call = record c { list = with_entry c.list o } in
    let u : slice_get mid i ≡ Some d = rw x (get-set_same cs i c d g) in
    let v : record d { list = kept_list n.phase d.list; state = n } ≡ call_after t c a = rw (r, q, p) (walk_after t c a e h) in
    y d u ∙ ap (λ z. slice_set z i (record d { list = kept_list n.phase d.list; state = n })) x ∙ set_set cs i d _ ∙ ap (slice_set cs i) v

pub walk_tells_now : {A : Type 0} (t : Table) (cs mid : List Call) (i : ℕ) (c : Call) (a : Answer) (s n : CallState) (o : Option Entry) (r : Option (RustReply A)) → slice_get cs i ≡ Some c → c.state.phase ≡ WalkAt → fits c.state.phase c.state a ≡ true →
    s ≡ c.state → o ≡ walked_entry t s a → n ≡ decide s a → mid ≡ slice_set cs i (record c { list = with_entry c.list o }) →
    ((d : Call) → slice_get mid i ≡ Some d → option_map reply_of r ≡ reply_at_end n.phase (Some (ReplyWalk d.list))) →
    option_map reply_of r ≡ reply t c a
walk_tells_now t cs mid i c a s n o k g e h p q r x y =
    let d : Call = record c { list = with_entry c.list o } in
    let u : slice_get mid i ≡ Some d = rw x (get-set_same cs i c d g) in
    let v : reply_at_end n.phase (Some (ReplyWalk d.list)) ≡ reply t c a = rw (r, q, p) (walk_is_told t c a e h) in
    y d u ∙ v

-- a call that ends is told its last reply, and no other is told anything
not_at_end : (p : Phase) (o : Option Reply) → (p ≡ Done → ⊥) → reply_at_end p o ≡ None
not_at_end Done o n = absurd (n refl)
not_at_end _ o n = refl

next_phase : (s n : CallState) (a : Answer) → fits s.phase s a ≡ true → n ≡ decide s a → n.phase ≡ (decided s.phase s a).phase
next_phase s n a f e = ap (λ (s : CallState). s.phase) (e ∙ decide_fits s a f)

pub tells_ended : (t : Table) (c : Call) (a : Answer) (n : CallState) → fits c.state.phase c.state a ≡ true → n ≡ decide c.state a → n.phase ≡ Done → last_reply c.state.phase t c a ≡ reply t c a
tells_ended t c a n f e d = ap (λ p. reply_at_end p (last_reply c.state.phase t c a)) (sym d ∙ next_phase c.state n a f e)

pub tells_nothing : (t : Table) (c : Call) (a : Answer) (n : CallState) → fits c.state.phase c.state a ≡ true → n ≡ decide c.state a → (n.phase ≡ Done → ⊥) → None ≡ reply t c a
tells_nothing t c a n f e d = sym (not_at_end _ (last_reply c.state.phase t c a) (λ z. d (next_phase c.state n a f e ∙ z)))

-- a write leaves as many
pub still_within : {X : Type 0} (xs now : List X) (i : ℕ) (x : X) → now ≡ slice_set xs i x → i < length xs → i < length now
still_within xs now i x e h = rw e (omega (arith, length-set xs i x))
