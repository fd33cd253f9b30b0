-- Sums over lists as proofs take them apart, and the library's sums and counts.
use Rattle.std.proofs.Common.{ℕ, ◌≡◌, ◌+◌, List, [], ◌∷◌, Bool, true, false, refl, sym, ap, ◌∙◌}
use Rattle.std.specs.Prelude.{◌==◌, sum_by, count_by, cond, if◌then◌else◌}
use Rattle.std.proofs.lemmas.List.Recursion.{is_sum_by}
use Rattle.table_core.specs.Bags.{SameBag}
use Rattle.table_core.specs.Bound.{one_if}

-- the sum of the weights, from the list's front on
abbrev pub weigh : {X : Type 0} → (X → ℕ) → List X → ℕ
weigh f [] = 0
weigh f (x ∷ xs) = f x + weigh f xs

-- how often a value is in a list
abbrev pub count_of : ℕ → List ℕ → ℕ
count_of v xs = weigh (λ x. if x == v then 1 else 0) xs

-- two lists weigh the same, whatever each value weighs
abbrev pub SameWeights : List ℕ → List ℕ → Type 0
SameWeights xs ys = (h : ℕ → ℕ) → weigh h xs ≡ weigh h ys

pub sum_by-weigh : {X : Type 0} (f : X → ℕ) (xs : List X) → sum_by f xs ≡ weigh f xs
sum_by-weigh f xs = sym (is_sum_by (weigh f) f refl (λ x xs. refl) xs)

one-cond : (b : Bool) → one_if b ≡ cond b 1 0
one-cond true = refl
one-cond false = refl

if-cond : (b : Bool) → ◌≡◌ {A = ℕ} (if b then 1 else 0) (cond b 1 0)
if-cond true = refl
if-cond false = refl

pub count_by-weigh : {X : Type 0} (p : X → Bool) (xs : List X) → count_by p xs ≡ weigh (λ x. one_if (p x)) xs
count_by-weigh p xs = sym (is_sum_by (weigh (λ x. one_if (p x))) (λ x. cond (p x) 1 0) refl (λ x xs. ap (λ n. n + weigh (λ x. one_if (p x)) xs) (one-cond (p x))) xs)

pub count_by-ifs : {X : Type 0} (p : X → Bool) (xs : List X) → count_by p xs ≡ weigh (λ x. if p x then 1 else 0) xs
count_by-ifs p xs = sym (is_sum_by (weigh (λ x. if p x then 1 else 0)) (λ x. cond (p x) 1 0) refl (λ x xs. ap (λ n. n + weigh (λ x. if p x then 1 else 0) xs) (if-cond (p x))) xs)

pub count_by-count_of : (v : ℕ) (xs : List ℕ) → count_by (λ x. x == v) xs ≡ count_of v xs
count_by-count_of v xs = count_by-ifs (λ x. x == v) xs

pub same_bag : (xs ys : List ℕ) → SameWeights xs ys → SameBag xs ys
same_bag xs ys e h = sum_by-weigh h xs ∙ e h ∙ sym (sum_by-weigh h ys)

pub same_weights : (xs ys : List ℕ) → SameBag xs ys → SameWeights xs ys
same_weights xs ys e h = sym (sum_by-weigh h xs) ∙ e h ∙ sum_by-weigh h ys
