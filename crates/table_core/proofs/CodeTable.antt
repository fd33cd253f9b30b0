-- The generations of a table, as the code keeps them.
use Rattle.std.proofs.Common.{ℕ, suc, zero, ◌≡◌, ◌+◌, ◌-◌, ◌*◌, ◌/◌, ◌^◌, ◌<◌, ◌≤◌, ◌++◌, ◌⊎◌, List, [], ◌∷◌, Bool, true, false, refl, Option, Some, None, length, ap, arith, ltb, ◌∙◌, inl, inr}
use Rattle.std.specs.Prelude.{◌==◌, if◌then◌else◌, slice_set, option_to_list, not, sum_by}
use Rattle.std.specs.List.{slice_get}
use Rattle.std.proofs.lemmas.Nat.{pow_pos}
use Rattle.std.proofs.lemmas.Option.{slice_get_within}
use Rattle.std.proofs.Math.Nat.{pow-le-pow_right, pow-suc}
use Rattle.std.proofs.lemmas.Bool.{cases_eq, cases_order, eq-eqb}
use Rattle.table_core.specs.Machine.{checked}
use Rattle.table_core.specs.declared.call.Answer.TheVariants.{Begun, Unwanted, Failed}
use Rattle.table_core.proofs.Weights.{weigh, sum_by-weigh}
use Rattle.table_core.specs.Generations.{Gen, last_of, change, change_at, next_copied, next_capacity, fresh}
use Rattle.table_core.specs.Bound.{Doubles, capacities, build_of}
use Rattle.table_terms.specs.Capacities.{IsFirstCapacity, IsCapacity}
use Rattle.table_core.specs.Indexed.{IsTable}
use Rattle.table_core.proofs.Lists.{weigh-append, weigh-map}
use Rattle.table_core.specs.declared.generation.Entry.{Entry}

pub capacity_le : (n : ℕ) → IsCapacity n → (0 < n) × (n ≤ 2 ^ 63)
capacity_le n h = (rw h.1 (pow_pos h.0), rw h.1 (pow-le-pow_right {n = 2} (omega arith) h.2))

-- capacities that double from n on have no more than 2^64 - n buckets together
pub doubles_sum : (n : ℕ) (cs : List ℕ) → Doubles n cs → (weigh (λ c. c) cs ≡ 0) ⊎ (weigh (λ c. c) cs + n ≤ 2 * 2 ^ 63)
doubles_sum n [] d = inl refl
doubles_sum n (c ∷ cs) d =
    let s = capacity_le n d.1 in
    let q = d.0 in
    elim (doubles_sum (2 * n) cs d.2) [ inl e ↦ inr (omega arith) | inr h ↦ inr (omega arith) ]

pub doubles_fit : (n : ℕ) (cs : List ℕ) → 0 < n → Doubles n cs → weigh (λ c. c) cs < 2 ^ 64
doubles_fit n cs p d = elim (doubles_sum n cs d) [ inl e ↦ omega arith | inr h ↦ omega arith ]

pub capacities_sum : (gens : List Gen) (growing : Option Gen) → weigh (λ c. c) (capacities gens growing) ≡ weigh (λ (g : Gen). g.capacity) gens + weigh (λ (g : Gen). g.capacity) (option_to_list growing)
capacities_sum gens growing = weigh-map (λ c. c) (λ (g : Gen). g.capacity) (gens ++ option_to_list growing) ∙ weigh-append (λ (g : Gen). g.capacity) gens (option_to_list growing)

-- a power of two up to 2^30 has an exponent up to 63
small_exponent : (k f : ℕ) → f ≡ 2 ^ k → f ≤ 2 ^ 30 → k ≤ 63
small_exponent k f e small = elim (cases_order 63 k) [
  | inl same ↦ omega arith
  | inr h ↦ elim h [
    | inl lt ↦ absurd (let le : 31 ≤ k = omega arith in let more : 2 ^ 31 ≤ 2 ^ k = pow-le-pow_right {n = 2} (omega arith) le in omega (arith, e, small))
    | inr gt ↦ omega arith
  ]
]

pub first_is : (f : ℕ) → IsFirstCapacity f → 0 < f
first_is f h = omega (arith, h.1)

-- a first capacity is a capacity
pub first_capacity : (f : ℕ) → IsFirstCapacity f → IsCapacity f
first_capacity f h = (h.0.0, h.0.1, small_exponent h.0.0 f h.0.1 h.2)

-- all buckets together fit
pub table_fits : (f : ℕ) (gens : List Gen) (growing : Option Gen) (source : List Entry) → IsTable f gens growing source → sum_by (λ (g : Gen). g.capacity) gens + sum_by (λ (g : Gen). g.capacity) (option_to_list growing) < 2 ^ 64
table_fits f gens growing source t =
    omega (arith, capacities_sum gens growing, doubles_fit f _ (first_is f t.allowed) t.doubles, sum_by-weigh (λ (g : Gen). g.capacity) gens, sum_by-weigh (λ (g : Gen). g.capacity) (option_to_list growing))

twice_pow : (k : ℕ) → 2 * 2 ^ k ≡ 2 ^ suc k
twice_pow k = omega (arith, pow-suc 2 k)

-- twice a capacity that isn't the greatest
pub twice : (c : ℕ) → IsCapacity c → (c ≡ 2 ^ 63 → ⊥) → IsCapacity (2 * c)
twice c h n = (suc h.0, rw h.1 (twice_pow h.0), elim (cases_eq h.0 63) [ inl e ↦ absurd (n (h.1 ∙ ap (λ k. 2 ^ k) e)) | inr m ↦ (let l = h.2 in omega arith) ])

not_wanted : (b d : Bool) → d ≡ true → (if b then Unwanted else (if not d then Begun else Failed)) ≡ Begun → ⊥
not_wanted true d e h = absurd (cc)
not_wanted false true e h = absurd (cc)
not_wanted false false e h = absurd (cc)

-- growth begins only where the capacity can double
pub wanted_room : (o : Option Gen) (g : Gen) → checked o true ≡ Begun → o ≡ Some g → g.capacity ≡ 2 ^ 63 → ⊥
wanted_room None g h e q = absurd (cc)
wanted_room (Some x) g h e q = let z : x ≡ g = cc in not_wanted (ltb x.size (x.capacity / 2)) (x.capacity == 2 ^ 63) (eq-eqb x.capacity (2 ^ 63) (ap (λ (g : Gen). g.capacity) z ∙ q)) h

-- a change that keeps the capacity
pub capacities_set : (gens : List Gen) (k : ℕ) (g h : Gen) (growing : Option Gen) → slice_get gens k ≡ Some g → h.capacity ≡ g.capacity → capacities (slice_set gens k h) growing ≡ capacities gens growing
capacities_set [] k g h o q e = refl
capacities_set (x ∷ gens) zero g h o q e = let z : h.capacity ≡ x.capacity = cc in rw z refl
capacities_set (x ∷ gens) (suc k) g h o q e = ap (λ cs. x.capacity ∷ cs) (capacities_set gens k g h o q e)

capacities_change_at : (gens : List Gen) (k : ℕ) (p : Option Gen) (f : Gen → Gen) (growing : Option Gen) → slice_get gens k ≡ p → ((g : Gen) → (f g).capacity ≡ g.capacity) → capacities (change_at gens k p f) growing ≡ capacities gens growing
capacities_change_at gens k None f o h e = refl
capacities_change_at gens k (Some g) f o h e = capacities_set gens k g (f g) o h (e g)

pub capacities_change : (gens : List Gen) (w : Option ℕ) (f : Gen → Gen) (growing : Option Gen) → ((g : Gen) → (f g).capacity ≡ g.capacity) → capacities (change gens w f) growing ≡ capacities gens growing
capacities_change gens None f o e = refl
capacities_change gens (Some k) f o e = capacities_change_at gens k (slice_get gens k) f o refl e

nothing_grows : (o : Option Gen) (k : ℕ) (g : Gen) → build_of o k ≡ None → o ≡ Some g → ⊥
nothing_grows None k g h e = absurd (cc)
nothing_grows (Some x) k g h e = absurd (cc)

-- a change of a generation while none is being built
pub table_change : (f : ℕ) (gens now : List Gen) (o : Option Gen) (k : ℕ) (source : List Entry) (w : Option ℕ) (h : Gen → Gen) → IsTable f gens o source → build_of o k ≡ None → ((g : Gen) → (h g).capacity ≡ g.capacity) → now ≡ change gens w h → IsTable f now o source
table_change f gens now o k source w h t b e n = record {
  allowed = t.allowed;
  doubles = rw (n, capacities_change gens w h o e) t.doubles;
  copies = λ g q. absurd (nothing_grows o k g b q);
}

-- the last of some generations
abbrev last_from : Gen → List Gen → Gen
last_from g [] = g
last_from g (h ∷ gens) = last_from h gens

pub last_is : (g : Gen) (gens : List Gen) → last_of (g ∷ gens) ≡ Some (last_from g gens)
last_is g [] = refl
last_is g (h ∷ gens) = let e : suc (suc (length gens)) - 1 ≡ suc (suc (length gens) - 1) = omega arith in rw e (last_is h gens)

doubles_push : (n : ℕ) (g : Gen) (gens : List Gen) (o : Option Gen) (c : ℕ) → Doubles n (capacities (g ∷ gens) o) → c ≡ 2 * (last_from g gens).capacity → IsCapacity c → Doubles n (capacities (g ∷ gens) (Some (fresh c)))
doubles_push n g [] o c d e h = (d.0, d.1, ((let q = d.0 in omega arith), (let z : c ≡ 2 * n = (let q = d.0 in omega arith) in rw (← z) h), tt))
doubles_push n g (x ∷ gens) o c d e h = (d.0, d.1, doubles_push (2 * n) x gens o c d.2 e h)

-- a next generation has twice the capacity of the last
pub doubles_more : (n : ℕ) (gens : List Gen) (o : Option Gen) (c : ℕ) → Doubles n (capacities gens o) → c ≡ next_capacity n (last_of gens) → IsCapacity c → Doubles n (capacities gens (Some (fresh c)))
doubles_more n [] o c d e h = (e, rw (← e) h, tt)
doubles_more n (g ∷ gens) o c d e h = doubles_push n g gens o c d (e ∙ ap (next_capacity n) (last_is g gens)) h

-- the next entry to be copied is one of the source's
pub next_within : (f : ℕ) (gens : List Gen) (o : Option Gen) (source : List Entry) (k : ℕ) (e : Entry) (g : Gen) → IsTable f gens o source → o ≡ Some g →
    next_copied (record { first = f; gens = gens; building = build_of o k }) ≡ Some e → k < length source
next_within f gens None source k e g t h n = absurd (cc)
next_within f gens (Some x) source k e g t h n = slice_get_within source k e (rw (t.copies x refl) n)
