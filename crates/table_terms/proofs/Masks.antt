-- A mask in place of a remainder, where the divisor is a power of two; and how code tests for a power of two.
use Rattle.std.proofs.Common.{◌≡◌, ◌↔◌, ℕ, zero, suc, ◌+◌, ◌-◌, ◌/◌, ◌%◌, ◌≤◌, true, IsTrue, ap, ◌∙◌, arith, eqb-true, eq-eqb, refl, ◌*◌, ◌^◌, bit_and, count_ones}
use Rattle.std.proofs.Common.{add_assoc}
use Rattle.std.proofs.Math.Nat.{mod-add-mod}
use Rattle.std.proofs.lemmas.Nat.{and_mask, zero_from_ones}
use Rattle.std.specs.Int.{is_power_of_two, IsPowerOfTwo}
use Rattle.table_terms.specs.Probes.{bucket_at}
use lib.Count.{ones_step}
use mathlib.Core.Logic.{dite}
use native.Mathlib.Decide.{ℕ_discrete}

-- a number with one digit that is 1 is a power of two; d bounds the recursion
power_from_ones : (d n : ℕ) → n ≤ d → count_ones n ≡ 1 → IsPowerOfTwo n
unfolding lib.Count.ones
power_from_ones zero n h e = let is_zero : n ≡ 0 = omega arith in let none : count_ones n ≡ 0 = ap count_ones is_zero in absurd (omega arith)
power_from_ones (suc d) n h e = let s = ones_step n in dite (ℕ_discrete (n % 2) 0)
    (λ even. let half = power_from_ones d (n / 2) (omega arith) (omega arith) in (suc half.0, omega (arith, half.1)))
    (λ odd. let rest = zero_from_ones (n / 2) (omega arith) in (0, omega arith))

pub power_of_two : (n : ℕ) → is_power_of_two n ≡ true → IsPowerOfTwo n
power_of_two n is = power_from_ones n n (omega arith) (eqb-true (count_ones n) 1 is)

ones-power : (k : ℕ) → count_ones (2 ^ k) ≡ 1
unfolding lib.Count.ones
ones-power zero = refl
ones-power (suc k) =
    let step = ones_step (2 ^ suc k) in
    let double : 2 ^ suc k ≡ 2 * 2 ^ k = omega arith in
    let half : 2 ^ suc k / 2 ≡ 2 ^ k = omega (arith, double) in
    let even : 2 ^ suc k % 2 ≡ 0 = omega (arith, double) in
    let rest : count_ones (2 ^ suc k / 2) ≡ 1 = ap count_ones half ∙ ones-power k in omega (arith, step, even, rest)

pub power-is_power_of_two : (k : ℕ) → is_power_of_two (2 ^ k) ≡ true
power-is_power_of_two k = eq-eqb (count_ones (2 ^ k)) 1 (ones-power k)

-- a number passes the test exactly if it is a power of two
pub is_power_of_two_iff : (n : ℕ) → IsTrue (is_power_of_two n) ↔ IsPowerOfTwo n
is_power_of_two_iff n = (
  power_of_two n,
  λ h. rw h.1 (power-is_power_of_two h.0),
)

pub mask-mod : (x n : ℕ) → IsPowerOfTwo n → bit_and x (n - 1) ≡ x % n
mask-mod x n (k, e) = rw e (and_mask x k)

-- the mask of what follows a bucket of a way is the next bucket of the way
pub mask-next : (n bucket : ℕ) → IsPowerOfTwo n → (hash k : ℕ) → bucket ≡ bucket_at n hash k → bit_and (bucket + 1) (n - 1) ≡ bucket_at n hash (k + 1)
mask-next n bucket power hash k e = mask-mod (bucket + 1) n power ∙ rw e (mod-add-mod (hash + k) n 1 ∙ ap (λ (h : ℕ). h % n) (add_assoc hash k 1))
