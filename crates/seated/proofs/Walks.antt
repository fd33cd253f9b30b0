-- A seat probes for a number, or meets another: what it has learnt, and what that tells of the answer.
use Rattle.std.proofs.Common.{IsTrue, true, false, true≢false, ◌↔◌, ◌≡◌, ◌≢◌, ℕ, ◌+◌, ◌<◌, ◌≤◌, List, [], ◌∷◌, ◌++◌, get_or, sym, refl, ap, ◌∙◌, subst, arith, max, append-nil}
use Rattle.std.proofs.lemmas.List.Elements.{All-append, All-push, Contains-push, Contains-append_left, Contains-append_right}
use Rattle.std.specs.Prelude.{Contains}
use mathlib.Core.Logic.{dite}
use mathlib.Core.Option.{none}
use native.Mathlib.Decide.{ℕ_discrete}
use Rattle.atomic_table.specs.Table.{step}
use Rattle.seated.specs.declared.seat.NumberAnswer.{NumberAnswer}
use Rattle.seated.specs.declared.seat.View.{View}
use Rattle.seated.proofs.Counts.{times-append, times_in}
use Rattle.seated.specs.declared.seat.NumberAnswer.TheVariants.{Placed, Found, Full}
use Rattle.seated.specs.Views.{times, with_pair, with_number, with_next_turn, without_gift, unchanged, note_of, gift_of, join_of}
use Rattle.table_terms.specs.Probes.{bucket_at}
use Rattle.seated.specs.Rule.{IsLaidOut, Fits}
use Rattle.seated.specs.Steps.{SeatState, Shows, Reads, HasPassed, IsNext, Learns}
use Rattle.seated.specs.Numbers.{Knows, KnowsEach, KnowsEachBucket, Within, Disjoint, Inserts}
use Rattle.seated.proofs.Probes.{bucket_inside, absent, unknown, all_known, none_known, passed_more, fits_with_pair}

-- from the view v the seat has probed the first k buckets for x, and its view is w
pub record Walked (n x k : ℕ) (v w : View) : Type 0 where
  pub size : w.size ≡ n
  pub own : w.own ≡ v.own
  pub giver_own : w.giver_own ≡ []
  pub giver_turn : w.giver_turn ≡ 0
  pub within : Within v.known w.known
  pub passed : HasPassed n x w.known k
  pub sound : 0 < k → (words : List ℕ) × IsLaidOut n words × Fits n words w

module _ (n x k : ℕ) (v w : View) (walked : Walked n x k v w) where
  laid_here : (p r : ℕ) → (shows : Shows w p r) → IsLaidOut n shows.words
  laid_here p r shows = subst (λ (z : ℕ). IsLaidOut z shows.words) walked.size shows.laid_out

  fits_here : (p r : ℕ) → (shows : Shows w p r) → Fits n shows.words w
  fits_here p r shows = subst (λ (z : ℕ). Fits z shows.words w) walked.size shows.fits

  pub next : (p : ℕ) → k < n → bucket_at n x k ≡ p → IsNext w x p
  next p short to = subst (λ (z : ℕ). (i : ℕ) × (i < z) × (bucket_at z x i ≡ p) × HasPassed z x w.known i) (sym walked.size) (k, short, to, walked.passed)

  walks_saw : (p r : ℕ) → Shows w p r → 0 < n → bucket_at n x k ≡ p → r ≢ 0 → r ≢ x → Walked n x (k + 1) v (with_pair w p r)
  walks_saw p r shows some_places to full other = record {
    size = walked.size;
    own = walked.own;
    giver_own = walked.giver_own;
    giver_turn = walked.giver_turn;
    within = λ q y c. Contains-append_left w.known ((p, r) ∷ []) (q, y) (walked.within q y c);
    passed = subst (λ (z : ℕ). HasPassed n x (w.known ++ (z, r) ∷ []) (k + 1)) to (passed_more n x w.known k r walked.passed other);
    sound = λ l. (shows.words, laid_here p r shows, fits_with_pair n shows.words w p r (fits_here p r shows) (subst (λ (z : ℕ). z < n) to (bucket_inside n x k some_places)) (omega arith) shows.here);
  }

  pub walks_on : (p r : ℕ) (u : View) → Shows w p r → 0 < n → bucket_at n x k ≡ p → r ≢ 0 → r ≢ x → u ≡ with_pair w p r → Walked n x (k + 1) v u
  walks_on p r u shows some_places to full other is = subst (Walked n x (k + 1) v) (sym is) (walks_saw p r shows some_places to full other)

  pub finds : (p r : ℕ) (u : View) → r ≡ x → u ≡ with_pair w p r → Within v.known u.known × Inserts n x v.known v.own Found u.known u.own
  finds p r u found is = subst (λ (z : View). Within v.known z.known × Inserts n x v.known v.own Found z.known z.own) (sym is) (
    (λ q y c. Contains-append_left w.known ((p, r) ∷ []) (q, y) (walked.within q y c)),
    (walked.own, (p, subst (λ (z : ℕ). Contains (w.known ++ (p, r) ∷ []) (p, z)) found (Contains-push w.known (p, r)))),
  )

  pub misses : (p r : ℕ) → Shows w p r → r ≡ 0 → 0 < x → bucket_at n x k ≡ p → ¬ Knows w.known x
  misses p r shows empty real to known = let fits = fits_here p r shows in
      let none = absent n shows.words w x k (laid_here p r shows) fits real walked.passed (ap (λ (z : ℕ). get_or shows.words z 0) to ∙ (shows.here ∙ empty)) in
      unknown n shows.words w x fits none known.0 known.1

  pub places : (p r : ℕ) (u : View) → Shows w p r → r ≡ 0 → 0 < x → bucket_at n x k ≡ p → u ≡ with_number w p x → Within v.known u.known × Inserts n x v.known v.own Placed u.known u.own
  places p r u shows empty real to is = subst (λ (z : View). Within v.known z.known × Inserts n x v.known v.own Placed z.known z.own) (sym is) (
    (λ q y c. Contains-append_left w.known ((p, x) ∷ []) (q, y) (walked.within q y c)),
    (
      ap (λ (l : List ℕ). l ++ x ∷ []) walked.own,
      (p, Contains-push w.known (p, x)),
      (λ known. misses p r shows empty real to (known.0, walked.within known.0 x known.1)),
    ),
  )

  -- the probe has made a whole turn
  pub goes_round : 0 < n → k ≡ n → KnowsEachBucket n w.known × (¬ Knows w.known x)
  goes_round some_places whole = let passed : HasPassed n x w.known n = subst (HasPassed n x w.known) whole walked.passed in let sound = walked.sound (omega arith) in
      (all_known n sound.0 w x sound.2 passed, (λ known. none_known n sound.0 w x sound.2 passed known.0 known.1))

-- what a read adds to what is known
pub reads_more : (g : View → View) (slots p r : ℕ) (me me' : SeatState) → ((v : View) → (g v).known ≡ v.known) → Reads g (step slots p 0 0 none) me r me' → Within me.0.known me'.0.known
reads_more g slots p r me me' same told q y c = dite (ℕ_discrete r 0)
    (λ e. subst (λ (l : List (ℕ × ℕ)). Contains l (q, y)) (sym (ap (λ (m : SeatState). m.0.known) (told.1 e) ∙ same me.0)) c)
    (λ ne. subst (λ (l : List (ℕ × ℕ)). Contains l (q, y)) (sym (ap (λ (m : SeatState). m.0.known) (told.2 ne) ∙ same (with_pair me.0 p r))) (Contains-append_left me.0.known ((p, r) ∷ []) (q, y) c))

-- what a read leaves as it was
pub reads_keep : {A : Type 0} (f : SeatState → A) (g : View → View) (slots p r : ℕ) (me me' : SeatState) → ((x : ℕ) → f (g (with_pair me.0 p x), me.1) ≡ f (g me.0, me.1)) → Reads g (step slots p 0 0 none) me r me' → f me' ≡ f (g me.0, me.1)
reads_keep f g slots p r me me' same told = dite (ℕ_discrete r 0) (λ e. ap f (told.1 e)) (λ ne. ap f (told.2 ne) ∙ same r)

pub read_within : (slots p r : ℕ) (ps : List (ℕ × ℕ)) (me me' : SeatState) → me.0.known ≡ ps → Reads unchanged (step slots p 0 0 none) me r me' → Within ps me'.0.known
read_within slots p r ps me me' is told = subst (λ (l : List (ℕ × ℕ)). Within l me'.0.known) is (reads_more unchanged slots p r me me' (λ v. refl) told)

-- two lists have no number in common where none is twice in both together
pub apart_once : (xs ys : List ℕ) → ((x : ℕ) → times x xs + times x ys ≤ 1) → Disjoint xs ys
apart_once xs ys once x a b = let i = times_in xs x a in let j = times_in ys x b in let one = once x in omega arith

pub read_apart : (p r : ℕ) (v : View) (xs ys : List ℕ) → v.own ≡ xs ++ ys → Shows v p r → Disjoint xs ys
read_apart p r v xs ys is shows = apart_once xs ys (λ x. let sum = times-append x xs ys in let one = shows.once x in let same = ap (times x) is in omega arith)

pub learns_more : (v : View) (slots p r : ℕ) (me me' : SeatState) → Learns v me.0 → Reads unchanged (step slots p 0 0 none) me r me' → Learns v me'.0
learns_more v slots p r me me' so told = record {
  size = reads_keep (λ (m : SeatState). m.0.size) unchanged slots p r me me' (λ x. refl) told ∙ so.size;
  known = λ q y c. reads_more unchanged slots p r me me' (λ u. refl) told q y (so.known q y c);
  own = reads_keep (λ (m : SeatState). m.0.own) unchanged slots p r me me' (λ x. refl) told ∙ so.own;
  turn = reads_keep (λ (m : SeatState). m.0.turn) unchanged slots p r me me' (λ x. refl) told ∙ so.turn;
  giver_own = reads_keep (λ (m : SeatState). m.0.giver_own) unchanged slots p r me me' (λ x. refl) told ∙ so.giver_own;
  giver_turn = reads_keep (λ (m : SeatState). m.0.giver_turn) unchanged slots p r me me' (λ x. refl) told ∙ so.giver_turn;
}

-- the first seat of a meeting, which had the view a, has taken in the note of b, raised its turn and read the other buckets
pub first_meets : (a b u : View) (me me' : SeatState) (slots r : ℕ) → me.0 ≡ join_of a (note_of b) → Reads with_next_turn (step slots 0 0 0 none) me r me' → Learns me'.0 u
    → Within (a.known ++ b.known) u.known × (u.own ≡ a.own) × (u.turn ≡ max a.turn b.turn + 1)
first_meets a b u me me' slots r is told so = (
  (λ q y c. so.known q y (reads_more with_next_turn slots 0 r me me' (λ v. refl) told q y (subst (λ (v : View). Contains v.known (q, y)) (sym is) c))),
  so.own ∙ (reads_keep (λ (m : SeatState). m.0.own) with_next_turn slots 0 r me me' (λ x. refl) told ∙ (ap (λ (v : View). v.own) is ∙ append-nil a.own)),
  so.turn ∙ (reads_keep (λ (m : SeatState). m.0.turn) with_next_turn slots 0 r me me' (λ x. refl) told ∙ ap (λ (v : View). v.turn + 1) is),
)

-- the second, which had the view b, has taken in the gift of u, compared what that seat placed with its own and read the other buckets
pub second_meets : (b u w : View) (me me' : SeatState) (slots r : ℕ) → me.0 ≡ join_of b (gift_of u) → Reads without_gift (step slots 0 0 0 none) me r me' → Learns me'.0 w → b.turn < u.turn
    → Within (b.known ++ u.known) w.known × (w.own ≡ b.own) × Disjoint u.own w.own
second_meets b u w me me' slots r is told so below =
    let own : w.own ≡ b.own = so.own ∙ (reads_keep (λ (m : SeatState). m.0.own) without_gift slots 0 r me me' (λ x. refl) told ∙ (ap (λ (v : View). v.own) is ∙ append-nil b.own)) in
    let shows : Shows (join_of b (gift_of u)) 0 r = subst (λ (v : View). Shows v 0 r) is told.0 in (
      (λ q y c. so.known q y (reads_more without_gift slots 0 r me me' (λ v. refl) told q y (subst (λ (v : View). Contains v.known (q, y)) (sym is) c))),
      own,
      apart_once u.own w.own (λ x. let sum = shows.apart (omega arith) x in let same = ap (times x) (own ∙ sym (append-nil b.own)) in omega arith),
    )

pub within_left : (ps qs rs : List (ℕ × ℕ)) → Within (ps ++ qs) rs → Within ps rs
within_left ps qs rs a p x c = a p x (Contains-append_left ps qs (p, x) c)

pub within_right : (ps qs rs : List (ℕ × ℕ)) → Within (ps ++ qs) rs → Within qs rs
within_right ps qs rs a p x c = a p x (Contains-append_right ps qs (p, x) c)

pub within_trans : (ps qs rs : List (ℕ × ℕ)) → Within ps qs → Within qs rs → Within ps rs
within_trans ps qs rs a b p x c = b p x (a p x c)

-- two seats with the views a and b have met, and have u and w: the second knows what both knew, and they own nothing in common
pub both_meet : (a b u w : View) (me me' you you' : SeatState) (slots r s : ℕ)
    → me.0 ≡ join_of a (note_of b) → Reads with_next_turn (step slots 0 0 0 none) me r me' → Learns me'.0 u
    → you.0 ≡ join_of b (gift_of u) → Reads without_gift (step slots 0 0 0 none) you s you' → Learns you'.0 w
    → Within (a.known ++ b.known) w.known × Disjoint u.own w.own
both_meet a b u w me me' you you' slots r s is told so is_too told_too so_too =
    let first = first_meets a b u me me' slots r is told so in
    let turn = first.2 in
    let second = second_meets b u w you you' slots s is_too told_too so_too (omega arith) in
    (within_trans (a.known ++ b.known) u.known w.known first.0 (within_right b.known u.known w.known second.0), second.2)

-- an answer of true, and one of false
pub affirmed : (P : Type 0) → P → IsTrue true ↔ P
affirmed P p = ((λ _. p), (λ _. refl))

pub denied : (P : Type 0) → ¬ P → IsTrue false ↔ P
denied P never = ((λ e. absurd (true≢false (sym e))), (λ p. absurd (never p)))

-- where nothing is owned, all of it is known
pub nothing_owned : (ps : List (ℕ × ℕ)) (xs : List ℕ) → xs ≡ [] → KnowsEach ps xs
unfolding KnowsEach
nothing_owned ps xs nothing = subst (KnowsEach ps) (sym nothing) (λ k d inside. absurd (omega (arith, inside)))

-- a seat that owns what it did, and knows no less, knows what it owns
pub still_known : (ps qs : List (ℕ × ℕ)) (xs ys : List ℕ) → KnowsEach ps xs → Within ps qs → ys ≡ xs → KnowsEach qs ys
unfolding KnowsEach
still_known ps qs xs ys each within is = subst (KnowsEach qs) (sym is) (λ k d inside. let known = each k d inside in (known.0, within known.0 (get_or xs k d) known.1))

-- and so a seat that two were joined to
pub both_known : (ps qs rs : List (ℕ × ℕ)) (xs ys : List ℕ) → KnowsEach ps xs → KnowsEach qs ys → Within (ps ++ qs) rs → KnowsEach rs (xs ++ ys)
unfolding KnowsEach
both_known ps qs rs xs ys each_x each_y within = All-append (Knows rs) xs ys (still_known ps rs xs xs each_x (within_left ps qs rs within) refl) (still_known qs rs ys ys each_y (within_right ps qs rs within) refl)

-- and so after an insert
pub inserted_known : (n x : ℕ) (ps qs : List (ℕ × ℕ)) (xs ys : List ℕ) (r : NumberAnswer) → KnowsEach ps xs → Within ps qs → Inserts n x ps xs r qs ys → KnowsEach qs ys
unfolding KnowsEach
inserted_known n x ps qs xs ys Placed each within told = subst (KnowsEach qs) (sym told.0) (All-push (Knows qs) xs x (still_known ps qs xs xs each within refl) told.1)
inserted_known n x ps qs xs ys Found each within told = still_known ps qs xs ys each within told.0
inserted_known n x ps qs xs ys Full each within told = still_known ps qs xs ys each within told.0
