-- The buckets that a probe reads, and what they tell of the words.
use Rattle.std.proofs.Common.{◌≡◌, ◌≢◌, ⊎_elim, ℕ, suc, ◌+◌, ◌-◌, ◌*◌, ◌/◌, ◌%◌, ◌<◌, List, [], ◌∷◌, ◌++◌, get_or, set, sym, ap, ◌∙◌, subst, arith, length-set, get_or-set_same, get_or-set_other, div-add-mod', mod-lt, mod-eq_of_lt, suc-mul}
use Rattle.std.proofs.Math.Nat.{add-mod-mod, add-mul-mod_self_right}
use Rattle.std.proofs.lemmas.Bool.{cases_order}
use Rattle.std.proofs.lemmas.List.Elements.{Contains-push, Contains-push_cases, Contains-append_left}
use Rattle.std.specs.Prelude.{Contains}
use mathlib.Core.Logic.{dite}
use native.Mathlib.Decide.{ℕ_discrete}
use Rattle.seated.specs.declared.seat.View.{View}
use Rattle.seated.specs.Views.{with_pair}
use Rattle.table_terms.specs.Probes.{bucket_at}
use Rattle.seated.specs.Rule.{IsLaidOut, Fits}
use Rattle.seated.specs.Numbers.{KnowsEachBucket}
use Rattle.seated.specs.Steps.{HasPassed, IsNext}

-- a probe gets to each bucket
pub probe_reaches : (n x p : ℕ) → p < n → (j : ℕ) × (j < n) × (bucket_at n x j ≡ p)
probe_reaches n x p h = let m : ℕ = x % n in let q : ℕ = x / n in let low : m < n = mod-lt x (omega arith) in let whole : q * n + m ≡ x = div-add-mod' x n in
    let up : suc q * n ≡ q * n + n = suc-mul q n in
    let sum : x + (p + (n - m)) ≡ p + suc q * n = omega arith in (
      (p + (n - m)) % n,
      mod-lt (p + (n - m)) (omega arith),
      add-mod-mod x (p + (n - m)) n ∙ (ap (λ (z : ℕ). z % n) sum ∙ (add-mul-mod_self_right p (suc q) n ∙ mod-eq_of_lt h)),
    )

pub bucket_inside : (n x k : ℕ) → 0 < n → bucket_at n x k < n
bucket_inside n x k h = mod-lt (x + k) h

pub reached : (n : ℕ) (ws : List ℕ) (p x : ℕ) → IsLaidOut n ws → p < n → 0 < x → get_or ws p 0 ≡ x
    → (k : ℕ) × (k < n) × (bucket_at n x k ≡ p) × ((j : ℕ) → j < k → 0 < get_or ws (bucket_at n x j) 0)
reached n ws p x laid inside real is =
    subst (λ (y : ℕ). (k : ℕ) × (k < n) × (bucket_at n y k ≡ p) × ((j : ℕ) → j < k → 0 < get_or ws (bucket_at n y j) 0)) is (laid.reach p inside (subst (λ (y : ℕ). 0 < y) (sym is) real))

-- where a probe for x meets an empty bucket, and the buckets that it passed hold other numbers, no word is x
pub absent : (n : ℕ) (ws : List ℕ) (v : View) (x k : ℕ) → IsLaidOut n ws → Fits n ws v → 0 < x → HasPassed n x v.known k → get_or ws (bucket_at n x k) 0 ≡ 0
    → (p : ℕ) → p < n → get_or ws p 0 ≢ x
absent n ws v x k laid fits real passed empty p inside is =
    let r = reached n ws p x laid inside real is in let i : ℕ = r.0 in let to : bucket_at n x i ≡ p = r.2 in
    let there : get_or ws (bucket_at n x i) 0 ≡ x = ap (λ (z : ℕ). get_or ws z 0) to ∙ is in
    ⊎_elim
    (λ (e : i ≡ k). let none_there : get_or ws (bucket_at n x i) 0 ≡ 0 = ap (λ (z : ℕ). get_or ws (bucket_at n x z) 0) e ∙ empty in absurd (omega arith))
    (⊎_elim
    (λ (l : i < k). let pass = passed i l in pass.1 (sym ((fits.known (bucket_at n x i) pass.0 pass.2).2) ∙ there))
    (λ (l : k < i). let full = r.3 k l in absurd (omega arith)))
    (cases_order i k)

-- what is known of a number stands in the words
pub unknown : (n : ℕ) (ws : List ℕ) (v : View) (x : ℕ) → Fits n ws v → ((p : ℕ) → p < n → get_or ws p 0 ≢ x) → (p : ℕ) → Contains v.known (p, x) → ⊥
unknown n ws v x fits none p c = let f = fits.known p x c in none p f.0 f.2

-- after a whole turn past other numbers, each bucket is known to hold a number, and none holds the one sought
pub all_known : (n : ℕ) (ws : List ℕ) (v : View) (x : ℕ) → Fits n ws v → HasPassed n x v.known n → KnowsEachBucket n v.known
all_known n ws v x fits passed p h = let w = probe_reaches n x p h in let r = passed w.0 w.1 in
    let there : Contains v.known (p, r.0) = subst (λ (z : ℕ). Contains v.known (z, r.0)) w.2 r.2 in (r.0, (fits.known p r.0 there).1, there)

pub none_known : (n : ℕ) (ws : List ℕ) (v : View) (x : ℕ) → Fits n ws v → HasPassed n x v.known n → (p : ℕ) → Contains v.known (p, x) → ⊥
none_known n ws v x fits passed p c = let f = fits.known p x c in let w = probe_reaches n x p f.0 in let r = passed w.0 w.1 in
    r.1 (sym ((fits.known (bucket_at n x w.0) r.0 r.2).2) ∙ (ap (λ (z : ℕ). get_or ws z 0) w.2 ∙ f.2))

pub passed_more : (n x : ℕ) (known : List (ℕ × ℕ)) (k y : ℕ) → HasPassed n x known k → y ≢ x → HasPassed n x (known ++ (bucket_at n x k, y) ∷ []) (k + 1)
passed_more n x known k y passed other j l = dite (ℕ_discrete j k)
    (λ (e : j ≡ k). (y, other, subst (λ (z : ℕ). Contains (known ++ (bucket_at n x k, y) ∷ []) (bucket_at n x z, y)) (sym e) (Contains-push known (bucket_at n x k, y))))
    (λ (ne : j ≢ k). let r = passed j (omega arith) in (r.0, r.1, Contains-append_left known ((bucket_at n x k, y) ∷ []) (bucket_at n x j, r.0) r.2))

-- a pair that stands may become known
pub fits_with_pair : (n : ℕ) (ws : List ℕ) (v : View) (p x : ℕ) → Fits n ws v → p < n → 0 < x → get_or ws p 0 ≡ x → Fits n ws (with_pair v p x)
fits_with_pair n ws v p x fits inside real is = record {
  known = λ q y c. ⊎_elim
      (λ (old : Contains v.known (q, y)). fits.known q y old)
      (λ (new : (p, x) ≡ (q, y)). let P : ℕ × ℕ → Type 0 = λ z. (z.0 < n) × (0 < z.1) × (get_or ws z.0 0 ≡ z.1) in subst P new (inside, real, is))
      (Contains-push_cases v.known (p, x) (q, y) c);
  own = λ y m. let r = fits.own y m in (r.0, Contains-append_left v.known ((p, x) ∷ []) (r.0, y) r.1);
}

module _ (n : ℕ) (ws : List ℕ) (p x : ℕ) (laid : IsLaidOut n ws) (inside : p < n) (real : 0 < x) where
  pub new_here : get_or (set ws p x) p 0 ≡ x
  new_here = let long = laid.count in get_or-set_same ws p x 0 (omega arith)

  pub new_else : (q : ℕ) → q ≢ p → get_or (set ws p x) q 0 ≡ get_or ws q 0
  new_else q other = get_or-set_other ws p q x 0 other

  pub stays_full : (q : ℕ) → 0 < get_or ws q 0 → 0 < get_or (set ws p x) q 0
  stays_full q h = dite (ℕ_discrete q p)
      (λ (e : q ≡ p). subst (λ (z : ℕ). 0 < get_or (set ws p x) z 0) (sym e) (subst (λ (z : ℕ). 0 < z) (sym new_here) real))
      (λ (ne : q ≢ p). subst (λ (z : ℕ). 0 < z) (sym (new_else q ne)) h)

  -- a number that no word holds is placed in the first empty bucket of its probe
  pub laid_out_with : (k : ℕ) → k < n → bucket_at n x k ≡ p → ((q : ℕ) → q < n → get_or ws q 0 ≢ x) → ((j : ℕ) → j < k → 0 < get_or ws (bucket_at n x j) 0) → IsLaidOut n (set ws p x)
  laid_out_with k short to none path = record {
    count = length-set ws p x ∙ laid.count;
    reach = λ q h full. let G : ℕ → Type 0 = λ y. (i : ℕ) × (i < n) × (bucket_at n y i ≡ q) × ((j : ℕ) → j < i → 0 < get_or (set ws p x) (bucket_at n y j) 0) in dite (ℕ_discrete q p)
        (λ (e : q ≡ p). subst G (sym (ap (λ (z : ℕ). get_or (set ws p x) z 0) e ∙ new_here)) (k, short, to ∙ sym e, λ j l. stays_full (bucket_at n x j) (path j l)))
        (λ (ne : q ≢ p). let r = laid.reach q h (subst (λ (z : ℕ). 0 < z) (new_else q ne) full) in
        subst G (sym (new_else q ne)) (r.0, r.1, r.2, λ j l. stays_full (bucket_at n (get_or ws q 0) j) (r.3 j l)));
    once = λ a b ha hb full e. dite (ℕ_discrete a p)
        (λ (ea : a ≡ p). dite (ℕ_discrete b p)
        (λ (eb : b ≡ p). ea ∙ sym eb)
        (λ (nb : b ≢ p). absurd (none b hb (sym (new_else b nb) ∙ (sym e ∙ (ap (λ (z : ℕ). get_or (set ws p x) z 0) ea ∙ new_here))))))
        (λ (na : a ≢ p). dite (ℕ_discrete b p)
        (λ (eb : b ≡ p). absurd (none a ha (sym (new_else a na) ∙ (e ∙ (ap (λ (z : ℕ). get_or (set ws p x) z 0) eb ∙ new_here)))))
        (λ (nb : b ≢ p). laid.once a b ha hb (subst (λ (z : ℕ). 0 < z) (new_else a na) full) (sym (new_else a na) ∙ (e ∙ new_else b nb))));
  }

  -- what was known still stands
  pub fits_with_number : (v : View) → get_or ws p 0 ≡ 0 → Fits n ws v → Fits n (set ws p x) v
  fits_with_number v empty fits = record {
    known = λ q y c. let f = fits.known q y c in (f.0, f.1, new_else q (λ e. let is : get_or ws q 0 ≡ 0 = ap (λ (z : ℕ). get_or ws z 0) e ∙ empty in let stood = f.2 in let more = f.1 in absurd (omega arith)) ∙ f.2);
    own = fits.own;
  }

pub next_inside : (n : ℕ) (v : View) (x p : ℕ) → v.size ≡ n → IsNext v x p → p < n
next_inside n v x p size next = let t = subst (λ (z : ℕ). (k : ℕ) × (k < z) × (bucket_at z x k ≡ p) × HasPassed z x v.known k) size next in
    subst (λ (z : ℕ). z < n) t.2 (bucket_inside n x t.0 (omega (arith, t.1)))
