-- Capacities that are doubled again and again.
--     doublings_make      as often as the places of their highest digits differ
use Rattle.std.proofs.Common.{◌≡◌, ℕ, ◌+◌, ◌-◌, ◌*◌, ◌^◌, ◌<◌, ◌≤◌, ◌⊎◌, inl, inr, refl, ap, ◌∙◌, arith}
use Rattle.std.specs.Int.{IsPowerOfTwo}
use Rattle.std.proofs.lemmas.Bool.{cases_lt}
use Rattle.std.proofs.lemmas.Nat.{pow-add}
use Rattle.std.proofs.Math.Pow.{pow-lt, pow_mono}

-- powers of two are in the order of their exponents
exponent_le : (i j : ℕ) → 2 ^ i ≤ 2 ^ j → i ≤ j
exponent_le i j less = by_order (cases_lt j i)
  where
    by_order : (j < i) ⊎ (i ≤ j) → i ≤ j
    by_order (inl below) = let powers : 2 ^ j < 2 ^ i = pow-lt below in omega (arith, powers, less)
    by_order (inr is) = is

-- the place of a power's highest digit is its exponent
exponent_is : (i j : ℕ) → 2 ^ i ≤ 2 ^ j → 2 ^ j < 2 * 2 ^ i → i ≡ j
exponent_is i j low high = by_order (cases_lt i j)
  where
    by_order : (i < j) ⊎ (j ≤ i) → i ≡ j
    by_order (inl more) = let next : 2 ^ (i + 1) ≤ 2 ^ j = pow_mono (omega (arith, more)) in let twice : 2 ^ (i + 1) ≡ 2 ^ i * 2 ^ 1 = pow-add 2 i 1 in omega (arith, next, twice, high)
    by_order (inr is) = let least : i ≤ j = exponent_le i j low in omega (arith, is, least)

-- i and j are the places of the highest digits of two powers of two: the one is doubled j - i times for the other
pub doublings_make : (small large i j : ℕ) → IsPowerOfTwo small → IsPowerOfTwo large → 2 ^ i ≤ small → small < 2 * 2 ^ i → 2 ^ j ≤ large → large < 2 * 2 ^ j
    → small ≤ large → large ≡ small * 2 ^ (j - i)
doublings_make small large i j (a, is_a) (b, is_b) i_low i_high j_low j_high less =
    let i_is : i ≡ a = exponent_is i a (omega (arith, i_low, is_a)) (omega (arith, i_high, is_a)) in
    let j_is : j ≡ b = exponent_is j b (omega (arith, j_low, is_b)) (omega (arith, j_high, is_b)) in
    let order : a ≤ b = exponent_le a b (omega (arith, less, is_a, is_b)) in
    let more : b ≡ a + (b - a) = omega (arith, order) in
    is_b ∙ ap (λ (k : ℕ). 2 ^ k) more ∙ pow-add 2 a (b - a) ∙ rw (is_a, i_is, j_is) refl
