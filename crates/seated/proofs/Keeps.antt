-- Each step keeps the rule.
use Rattle.std.proofs.Common.{◌≡◌, ◌≢◌, ◌⊎◌, inl, inr, ⊎_elim, ℕ, ◌<◌, ◌≤◌, List, [], ◌∷◌, ◌++◌, eqb, get_or, set, sym, refl, ap, ◌∙◌, subst, arith, eq-eqb, ne_eqb, le_trans, le_refl, zero-le}
use Rattle.std.proofs.lemmas.List.{set-get_or}
use Rattle.std.proofs.lemmas.List.Elements.{Contains-push, Contains-append_left, Contains-append_right, Contains-append_cases}
use Rattle.std.specs.Prelude.{Contains}
use mathlib.Core.Logic.{dite}
use native.Mathlib.Decide.{ℕ_discrete}
use mathlib.Core.Option.{none, some, some-injective}
use lib.ListN.{get_elem?}
use prog.Atomic.{either}
use Rattle.atomic_table.specs.Table.{State, step, keeps, stepped, Allows, Splits, Joins}
use Rattle.atomic_table.proofs.Lists.{at_set, at_snoc, at_longer, set_here, set_else, set_again}
use Rattle.seated.specs.declared.seat.View.{View}
use Rattle.seated.specs.Views.{times, placings, fresh_view, spent_view, note_of, gift_of, with_pair, with_number, with_next_turn, without_gift, unchanged, join_of}
use Rattle.table_terms.specs.Probes.{bucket_at}
use Rattle.seated.specs.Rule.{IsLaidOut, Fits, IsBacked, RuleHolds}
use Rattle.seated.specs.Steps.{SeatState, Shows, Reads, Claims, HasPassed, IsNext}
use Rattle.seated.proofs.Counts.{times_self, times_other, times-append, at_inside, placings-set, placings_push, placings_at, placings_two, placings_none}
use Rattle.seated.proofs.Probes.{bucket_inside, absent, fits_with_pair, laid_out_with, fits_with_number, new_here, new_else}

abbrev TableState : Type 0
TableState = State (Unit {0}) View

-- a giver has no less after a step of its seat
backed_after : (views : List View) (id : ℕ) (v w u : View) → get_elem? views id ≡ some v → v.turn ≤ w.turn → ((x : ℕ) → times x v.own ≤ times x w.own) → IsBacked views u → IsBacked (set views id w) u
backed_after views id v w u at up more g = dite (ℕ_discrete g.0 id)
    (λ (is : g.0 ≡ id). let same : g.1 ≡ v = some-injective g.1 v (sym g.2 ∙ (ap (get_elem? views) is ∙ at)) in
    let turn : u.giver_turn ≤ v.turn = subst (λ (z : View). u.giver_turn ≤ z.turn) same g.3 in
    (id, w, set_here views id w (at_inside views id v at), le_trans turn up, λ x. le_trans (subst (λ (z : View). times x u.giver_own ≤ times x z.own) same (g.4 x)) (more x)))
    (λ (other : g.0 ≢ id). (g.0, g.1, set_else views id g.0 w other ∙ g.2, g.3, g.4))

-- a step of one seat, from its view v to w
moved : (n : ℕ) (s : TableState) (r : RuleHolds n s) (id : ℕ) (v w : View) (ws : List ℕ) → get_elem? s.views id ≡ some v → IsLaidOut n ws → ((u : View) → Fits n s.words u → Fits n ws u) → Fits n ws w
    → v.turn ≤ w.turn → ((x : ℕ) → times x v.own ≤ times x w.own) → ((x : ℕ) → placings x (set s.views id w) ≤ 1) → IsBacked s.views w
    → ((p : ℕ) → p < n → 0 < get_or ws p 0 → placings (get_or ws p 0) (set s.views id w) ≡ 1)
    → RuleHolds n record { words = ws; homes = s.homes; views = set s.views id w }
moved n s r id v w ws at laid_out still fits up more once backed placed = record {
  laid_out = laid_out;
  fits = λ i u e. ⊎_elim (λ (t : (i ≡ id) × (w ≡ u)). subst (Fits n ws) t.1 fits) (λ (t : (i ≢ id) × (get_elem? s.views i ≡ some u)). still u (r.fits i u t.1)) (at_set s.views id i w u e);
  once = once;
  placed = placed;
  backed = λ i u e. ⊎_elim (λ (t : (i ≡ id) × (w ≡ u)). subst (IsBacked (set s.views id w)) t.1 (backed_after s.views id v w w at up more backed))
      (λ (t : (i ≢ id) × (get_elem? s.views i ≡ some u)). backed_after s.views id v w u at up more (r.backed i u t.1)) (at_set s.views id i w u e);
}

shown : (n : ℕ) (s : TableState) (r : RuleHolds n s) (id : ℕ) (v : View) (p : ℕ) → get_elem? s.views id ≡ some v → v.size ≡ n → Shows v p (get_or s.words p 0)
shown n s r id v p at size = record {
  words = s.words;
  laid_out = subst (λ (z : ℕ). IsLaidOut z s.words) (sym size) r.laid_out;
  fits = subst (λ (z : ℕ). Fits z s.words v) (sym size) (r.fits id v at);
  here = refl;
  once = λ x. le_trans (placings_at x s.views id v at) (r.once x);
  apart = λ lower x. let g = r.backed id v at in
      let turn = g.3 in
      let other : g.0 ≢ id = λ is. let same : v ≡ g.1 = some-injective v g.1 (sym at ∙ (ap (get_elem? s.views) (sym is) ∙ g.2)) in let high : v.giver_turn ≤ v.turn = subst (λ (z : View). v.giver_turn ≤ z.turn) (sym same) turn in absurd (omega arith) in
      let two = placings_two x s.views g.0 id g.1 v other g.2 at in let one = r.once x in let less = g.4 x in omega arith;
}

-- a change of a view that leaves what is known and what was placed, and lets no turn fall
pub record IsMild (g : View → View) : Type 0 where
  pub known : (v : View) → (g v).known ≡ v.known
  pub own : (v : View) → (g v).own ≡ v.own
  pub turn : (v : View) → v.turn ≤ (g v).turn
  pub backed : (views : List View) (v : View) → IsBacked views v → IsBacked views (g v)

pub unchanged_mild : IsMild unchanged
unchanged_mild = record { known = λ v. refl; own = λ v. refl; turn = λ v. le_refl v.turn; backed = λ views v g. g }

pub raise_mild : IsMild with_next_turn
raise_mild = record { known = λ v. refl; own = λ v. refl; turn = λ v. omega arith; backed = λ views v g. g }

pub forget_mild : IsMild without_gift
forget_mild = record { known = λ v. refl; own = λ v. refl; turn = λ v. le_refl v.turn; backed = λ views v g. (g.0, g.1, g.2, zero-le, λ x. zero-le) }

fits_mild : (n : ℕ) (ws : List ℕ) (g : View → View) (v : View) → IsMild g → Fits n ws v → Fits n ws (g v)
fits_mild n ws g v mild fits = record {
  known = λ p x c. fits.known p x (subst (λ (l : List (ℕ × ℕ)). Contains l (p, x)) (mild.known v) c);
  own = λ x m. let r = fits.own x (subst (λ (l : List ℕ). 0 < times x l) (mild.own v) m) in (r.0, subst (λ (l : List (ℕ × ℕ)). Contains l (r.0, x)) (sym (mild.known v)) r.1);
}

-- a step that writes nothing
seen : (n : ℕ) (s : TableState) (r : RuleHolds n s) (id p : ℕ) (v u : View) (g : View → View) (xs : List (ℕ × Unit {0})) → get_elem? s.views id ≡ some v → u.own ≡ v.own → u.turn ≡ v.turn → u.giver_own ≡ v.giver_own → u.giver_turn ≡ v.giver_turn
    → IsMild g → Fits n s.words u → RuleHolds n (stepped s p (get_or s.words p 0) id xs (g u) keeps)
seen n s r id p v u g xs at own turn giver_own giver_turn mild fits = let ws = set s.words p (get_or s.words p 0) in let stay : s.words ≡ ws = sym (set-get_or s.words p 0) in
    let same : (x : ℕ) → times x (g u).own ≡ times x v.own = λ x. ap (times x) (mild.own u ∙ own) in
    let all_same : (x : ℕ) → placings x (set s.views id (g u)) ≡ placings x s.views = λ x. let sum = placings-set x s.views id v (g u) at in let is = same x in omega arith in
    let up : v.turn ≤ (g u).turn = subst (λ (z : ℕ). z ≤ (g u).turn) turn (mild.turn u) in
    let old = r.backed id v at in
    let backed : IsBacked s.views u = (old.0, old.1, old.2, subst (λ (z : ℕ). z ≤ old.1.turn) (sym giver_turn) old.3, λ x. subst (λ (l : List ℕ). times x l ≤ times x old.1.own) (sym giver_own) (old.4 x)) in
    moved n s r id v (g u) ws at (subst (IsLaidOut n) stay r.laid_out) (λ w f. subst (λ (l : List ℕ). Fits n l w) stay f) (subst (λ (l : List ℕ). Fits n l (g u)) stay (fits_mild n s.words g u mild fits))
    up (λ x. let is = same x in omega arith)
    (λ x. let is = all_same x in let one = r.once x in omega arith)
    (mild.backed s.views u backed)
    (subst (λ (l : List ℕ). (q : ℕ) → q < n → 0 < get_or l q 0 → placings (get_or l q 0) (set s.views id (g u)) ≡ 1) stay
    (λ q h full. all_same (get_or s.words q 0) ∙ r.placed q h full))

pub reads : (n slots id : ℕ) (me : SeatState) (p : ℕ) (g : View → View) → me.0.size ≡ n → p < n → IsMild g → Allows (RuleHolds n) slots id me p (λ x. x) (Reads g (step slots p 0 0 none) me)
reads n slots id me p g size inside mild s r _ at _ = let v : View = me.0 in let x : ℕ = get_or s.words p 0 in let shows = shown n s r id v p at size in dite (ℕ_discrete x 0)
    (λ (empty : x ≡ 0). (g v, keeps, tt, seen n s r id p v v g me.1 at refl refl refl refl mild (r.fits id v at), (shows, (λ _. refl), (λ full. absurd (full empty)))))
    (λ (full : x ≢ 0). (
      g (with_pair v p x),
      keeps,
      tt,
      seen n s r id p v (with_pair v p x) g me.1 at refl refl refl refl mild (fits_with_pair n s.words v p x (r.fits id v at) inside (omega arith) refl),
      (shows, (λ empty. absurd (full empty)), (λ _. refl)),
    ))

-- the number is placed where no word holds it
put : (n : ℕ) (s : TableState) (r : RuleHolds n s) (id p x k : ℕ) (v : View) (xs : List (ℕ × Unit {0})) → get_elem? s.views id ≡ some v → k < n → bucket_at n x k ≡ p → 0 < x → HasPassed n x v.known k → get_or s.words p 0 ≡ 0
    → RuleHolds n (stepped s p x id xs (with_number v p x) keeps)
put n s r id p x k v xs at short to real passed empty = let ws = set s.words p x in let w = with_number v p x in let fits = r.fits id v at in
    let inside : p < n = subst (λ (z : ℕ). z < n) to (bucket_inside n x k (omega arith)) in
    let none : (q : ℕ) → q < n → get_or s.words q 0 ≢ x = absent n s.words v x k r.laid_out fits real passed (ap (λ (z : ℕ). get_or s.words z 0) to ∙ empty) in
    let path : (j : ℕ) → j < k → 0 < get_or s.words (bucket_at n x j) 0 = λ j l. let y = passed j l in let f = fits.known (bucket_at n x j) y.0 y.2 in subst (λ (z : ℕ). 0 < z) (sym f.2) f.1 in
    let laid_out = laid_out_with n s.words p x r.laid_out inside real k short to none path in
    let still : (u : View) → Fits n s.words u → Fits n ws u = λ u f. fits_with_number n s.words p x r.laid_out inside real u empty f in
    let fits_w : Fits n ws w = record {
      known = (fits_with_pair n ws v p x (still v fits) inside real (new_here n s.words p x r.laid_out inside real)).known;
      own = λ y m. dite (ℕ_discrete x y)
          (λ (e : x ≡ y). (p, subst (λ (z : ℕ). Contains (v.known ++ (p, x) ∷ []) (p, z)) e (Contains-push v.known (p, x))))
          (λ (ne : x ≢ y). let sum = times-append y v.own (x ∷ []) in let no_more = times_other y x ne in let f = fits.own y (omega arith) in (f.0, Contains-append_left v.known ((p, x) ∷ []) (f.0, y) f.1));
    } in
    let unplaced : placings x s.views ≡ 0 = placings_none x s.views
    (λ i u here. dite (ℕ_discrete (times x u.own) 0) (λ z. z) (λ some_there. let back = (r.fits i u here).own x (omega arith) in let f = (r.fits i u here).known back.0 x back.1 in absurd (none back.0 f.0 f.2))) in
    let now_placed : placings x (set s.views id w) ≡ 1 = let sum = placings-set x s.views id v w at in let add = times-append x v.own (x ∷ []) in let one = times_self x in omega arith in
    let others : (y : ℕ) → x ≢ y → placings y (set s.views id w) ≡ placings y s.views = λ y ne. let sum = placings-set y s.views id v w at in let add = times-append y v.own (x ∷ []) in let no_more = times_other y x ne in omega arith in
    let once : (y : ℕ) → placings y (set s.views id w) ≤ 1 = λ y. dite (ℕ_discrete x y)
    (λ (e : x ≡ y). let one : placings y (set s.views id w) ≡ 1 = subst (λ (z : ℕ). placings z (set s.views id w) ≡ 1) e now_placed in omega arith)
    (λ (ne : x ≢ y). let as_before = others y ne in let one = r.once y in omega arith) in
    let placed : (q : ℕ) → q < n → 0 < get_or ws q 0 → placings (get_or ws q 0) (set s.views id w) ≡ 1 = λ q h full. dite (ℕ_discrete q p)
    (λ (e : q ≡ p). subst (λ (z : ℕ). placings z (set s.views id w) ≡ 1) (sym (ap (λ (z : ℕ). get_or ws z 0) e ∙ new_here n s.words p x r.laid_out inside real)) now_placed)
    (λ (ne : q ≢ p). let same = new_else n s.words p x r.laid_out inside real q ne in subst (λ (z : ℕ). placings z (set s.views id w) ≡ 1) (sym same)
    (others (get_or s.words q 0) (λ e. none q h (sym e)) ∙ r.placed q h (subst (λ (z : ℕ). 0 < z) same full))) in
    moved n s r id v w ws at laid_out still fits_w (le_refl v.turn) (λ y. let add = times-append y v.own (x ∷ []) in omega arith) once (r.backed id v at) placed

claims_after : (n slots id : ℕ) (me : SeatState) (p x k : ℕ) → me.0.size ≡ n → k < n → bucket_at n x k ≡ p → 0 < x → HasPassed n x me.0.known k
    → Allows (RuleHolds n) slots id me p (λ y. either (eqb y 0) x y) (Claims (step slots p 0 x none) me)
claims_after n slots id me p x k size short to real passed s r _ at _ = let v : View = me.0 in let y : ℕ = get_or s.words p 0 in let shows = shown n s r id v p at size in
    let inside : p < n = subst (λ (z : ℕ). z < n) to (bucket_inside n x k (omega arith)) in dite (ℕ_discrete y 0)
    (λ (hit : y ≡ 0). (
      with_number v p x,
      keeps,
      tt,
      subst (λ b. RuleHolds n (stepped s p (either b x y) id me.1 (with_number v p x) keeps)) (sym (eq-eqb y 0 hit)) (put n s r id p x k v me.1 at short to real passed hit),
      (shows, (λ _. refl), (λ full. absurd (full hit))),
    ))
    (λ (miss : y ≢ 0). (
      with_pair v p y,
      keeps,
      tt,
      subst (λ b. RuleHolds n (stepped s p (either b x y) id me.1 (with_pair v p y) keeps)) (sym (ne_eqb y 0 miss))
          (seen n s r id p v (with_pair v p y) unchanged me.1 at refl refl refl refl unchanged_mild (fits_with_pair n s.words v p y (r.fits id v at) inside (omega arith) refl)),
      (shows, (λ empty. absurd (miss empty)), (λ _. refl)),
    ))

pub claims : (n slots id : ℕ) (me : SeatState) (p x : ℕ) → me.0.size ≡ n → 0 < x → IsNext me.0 x p
    → Allows (RuleHolds n) slots id me p (λ y. either (eqb y 0) x y) (Claims (step slots p 0 x none) me)
claims n slots id me p x size real next =
    let t = subst (λ (z : ℕ). (k : ℕ) × (k < z) × (bucket_at z x k ≡ p) × HasPassed z x me.0.known k) size next in
    claims_after n slots id me p x t.0 size t.1 t.2 real t.3

-- a seat that is cut off knows no more than the seat that it comes from, and says no more of a giver than that one placed
cuts : (n id : ℕ) (v w : View) → ((p x : ℕ) → Contains w.known (p, x) → Contains v.known (p, x)) → w.own ≡ [] → w.giver_turn ≤ v.turn → ((x : ℕ) → times x w.giver_own ≤ times x v.own)
    → Splits (RuleHolds n) id v v w
cuts n id v w within nothing low less s r at = let stay : set s.views id v ≡ s.views = set_again s.views id v at in let more : List View = s.views ++ w ∷ [] in
    let longer : (u : View) → IsBacked s.views u → IsBacked more u = λ u g. (g.0, g.1, at_longer s.views (w ∷ []) g.0 g.1 g.2, g.3, g.4) in
    let as_before : (x : ℕ) → placings x more ≡ placings x s.views = λ x. let sum = placings_push x s.views w in let none_there : times x w.own ≡ 0 = ap (times x) nothing in omega arith in
    subst (λ (l : List View). RuleHolds n record { words = s.words; homes = s.homes; views = l ++ w ∷ [] }) (sym stay) record {
      laid_out = r.laid_out;
      fits = λ i u e. ⊎_elim (λ (old : get_elem? s.views i ≡ some u). r.fits i u old)
          (λ (new : w ≡ u). subst (Fits n s.words) new (record {
            known = λ p x c. (r.fits id v at).known p x (within p x c);
            own = λ x m. let none_there : times x w.own ≡ 0 = ap (times x) nothing in absurd (omega arith);
          }))
          (at_snoc s.views w u i e);
      once = λ x. let same = as_before x in let one = r.once x in omega arith;
      placed = λ p h full. as_before (get_or s.words p 0) ∙ r.placed p h full;
      backed = λ i u e. ⊎_elim (λ (old : get_elem? s.views i ≡ some u). longer u (r.backed i u old))
          (λ (new : w ≡ u). subst (IsBacked more) new (id, v, at_longer s.views (w ∷ []) id v at, low, less))
          (at_snoc s.views w u i e);
    }

pub cuts_newcomer : (n id : ℕ) (v : View) → Splits (RuleHolds n) id v v (fresh_view v.size)
cuts_newcomer n id v = cuts n id v (fresh_view v.size) (λ p x c. absurd (omega (arith, c.1))) refl zero-le (λ x. zero-le)

pub cuts_note : (n id : ℕ) (v : View) → Splits (RuleHolds n) id v v (note_of v)
cuts_note n id v = cuts n id v (note_of v) (λ p x c. c) refl zero-le (λ x. zero-le)

pub cuts_gift : (n id : ℕ) (v : View) → Splits (RuleHolds n) id v v (gift_of v)
cuts_gift n id v = cuts n id v (gift_of v) (λ p x c. c) refl (le_refl v.turn) (λ x. le_refl (times x v.own))

-- what two seats know and placed fits the words together
fits_join : (n : ℕ) (ws : List ℕ) (v w : View) → Fits n ws v → Fits n ws w → Fits n ws (join_of v w)
fits_join n ws v w fits_v fits_w = record {
  known = λ p x c. ⊎_elim (λ (a : Contains v.known (p, x)). fits_v.known p x a) (λ (b : Contains w.known (p, x)). fits_w.known p x b) (Contains-append_cases v.known w.known (p, x) c);
  own = λ x m. let sum = times-append x v.own w.own in dite (ℕ_discrete (times x v.own) 0)
      (λ e. let f = fits_w.own x (omega arith) in (f.0, Contains-append_right v.known w.known (f.0, x) f.1))
      (λ ne. let f = fits_v.own x (omega arith) in (f.0, Contains-append_left v.known w.known (f.0, x) f.1));
}

fits_spent : (n : ℕ) (ws : List ℕ) → Fits n ws spent_view
fits_spent n ws = record { known = λ p x c. absurd (omega (arith, c.1)); own = λ x m. absurd (omega arith) }

-- the seat id, whose view was v, takes in the seat other, whose view was w
module _ (views : List View) (id : ℕ) (v : View) (other : ℕ) (w : View) (at : get_elem? views id ≡ some v) (apart : other ≢ id) (at_other : get_elem? (set views id (join_of v w)) other ≡ some w) where
  abbrev one_set : List View
  one_set = set views id (join_of v w)

  abbrev both_set : List View
  both_set = set one_set other spent_view

  join_here : get_elem? both_set id ≡ some (join_of v w)
  join_here = set_else one_set other id spent_view (λ e. apart (sym e)) ∙ set_here views id (join_of v w) (at_inside views id v at)

  other_here : get_elem? views other ≡ some w
  other_here = sym (set_else views id other (join_of v w) apart) ∙ at_other

  -- the joined seat backs what either of the two did
  backed_by_join : (u z : View) → (z ≡ v) ⊎ (z ≡ w) → u.giver_turn ≤ z.turn → ((x : ℕ) → times x u.giver_own ≤ times x z.own) → IsBacked both_set u
  backed_by_join u z which turn less = (
    id,
    join_of v w,
    join_here,
    ⊎_elim (λ (e : z ≡ v). let t = ap (λ (a : View). a.turn) e in omega arith) (λ (e : z ≡ w). let t = ap (λ (a : View). a.turn) e in omega arith) which,
    (λ x. let sum = times-append x v.own w.own in let few = less x in
        ⊎_elim (λ (e : z ≡ v). let t = ap (λ (a : View). times x a.own) e in omega arith) (λ (e : z ≡ w). let t = ap (λ (a : View). times x a.own) e in omega arith) which),
  )

  backed_after_join : (u : View) → IsBacked views u → IsBacked both_set u
  backed_after_join u g = dite (ℕ_discrete g.0 id)
      (λ (is : g.0 ≡ id). backed_by_join u g.1 (inl (some-injective g.1 v (sym g.2 ∙ (ap (get_elem? views) is ∙ at)))) g.3 g.4)
      (λ (no : g.0 ≢ id). dite (ℕ_discrete g.0 other)
      (λ (is : g.0 ≡ other). backed_by_join u g.1 (inr (some-injective g.1 w (sym g.2 ∙ (ap (get_elem? views) is ∙ other_here)))) g.3 g.4)
      (λ (nor : g.0 ≢ other). (g.0, g.1, set_else one_set other g.0 spent_view nor ∙ (set_else views id g.0 (join_of v w) no ∙ g.2), g.3, g.4)))

  placings-join : (x : ℕ) → placings x both_set ≡ placings x views
  placings-join x = let a = placings-set x views id v (join_of v w) at in let b = placings-set x one_set other w spent_view at_other in let sum = times-append x v.own w.own in omega arith

  each_view : (P : View → Type 0) → P spent_view → P (join_of v w) → ((i : ℕ) (u : View) → get_elem? views i ≡ some u → P u) → (i : ℕ) (u : View) → get_elem? both_set i ≡ some u → P u
  each_view P p_spent p_join rest i u e = ⊎_elim (λ (t : (i ≡ other) × (spent_view ≡ u)). subst P t.1 p_spent)
      (λ (t : (i ≢ other) × (get_elem? one_set i ≡ some u)). ⊎_elim (λ (q : (i ≡ id) × (join_of v w ≡ u)). subst P q.1 p_join) (λ (q : (i ≢ id) × (get_elem? views i ≡ some u)). rest i u q.1) (at_set views id i (join_of v w) u t.1))
      (at_set one_set other i spent_view u e)

pub joins : (n id : ℕ) (v : View) (other : ℕ) (w : View) → Joins (RuleHolds n) id v other w (join_of v w) spent_view
joins n id v other w s r at apart at_other = let there = other_here s.views id v other w at apart at_other in
    let after = backed_after_join s.views id v other w at apart at_other in record {
      laid_out = r.laid_out;
      fits = each_view s.views id v other w at apart at_other (Fits n s.words) (fits_spent n s.words) (fits_join n s.words v w (r.fits id v at) (r.fits other w there)) r.fits;
      once = λ x. let same = placings-join s.views id v other w at apart at_other x in let one = r.once x in omega arith;
      placed = λ p h full. placings-join s.views id v other w at apart at_other (get_or s.words p 0) ∙ r.placed p h full;
      backed = each_view s.views id v other w at apart at_other (IsBacked (both_set s.views id v other w at apart at_other)) (id, join_of v w, join_here s.views id v other w at apart at_other, zero-le, λ x. zero-le)
          (after w (r.backed other w there)) (λ i u e. after u (r.backed i u e));
    }
