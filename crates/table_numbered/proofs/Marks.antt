-- Marks are of 32 bits, and entries are lawful where their values are.
use Rattle.std.proofs.Common.{◌≡◌, ℕ, ◌+◌, ◌*◌, ◌/◌, ◌%◌, ◌^◌, ◌<◌, ◌≤◌, Bool, arith, ap}
use Rattle.std.proofs.Math.Nat.{mul-lt-mul_of_pos_right}
use Rattle.table_terms.specs.Laws.{IsLaw}
use Rattle.table_numbered.specs.Words.{mark_of, alike, marked}

pub mark_small : (h : ℕ) → mark_of h < 2 ^ 32
unfolding mark_of
mark_small h = omega arith

pub alike_lawful : {V : Type 0} {same : V → V → Bool} {hash : V → ℕ} → IsLaw same hash
    → IsLaw (alike same) (marked hash)
alike_lawful {hash = hash} law = record {
  reflexive = λ a. law.reflexive a.value;
  symmetric = λ a b is. law.symmetric a.value b.value is;
  transitive = λ a b c is so. law.transitive a.value b.value c.value is so;
  small = λ a. omega (arith, mark_small (hash a.value));
  agrees = λ a b is. ap mark_of (law.agrees a.value b.value is);
}

-- a part of n that is less than the whole of it
pub first_below : (mark n : ℕ) → mark < 2 ^ 32 → 0 < n → mark * n / 2 ^ 32 < n
first_below mark n small some = div_below (mark * n) n (mul_below mark n small some)
  where
    mul_below : (m k : ℕ) → m < 2 ^ 32 → 0 < k → m * k < 2 ^ 32 * k
    mul_below m k lt pos = mul-lt-mul_of_pos_right lt pos

    div_below : (a k : ℕ) → a < 2 ^ 32 * k → a / 2 ^ 32 < k
    div_below a k lt = omega arith

-- an entry's word has its mark in the upper half, and its number in the lower one
pub word_parts : (m k w : ℕ) → k + 2 < 2 ^ 32 → w ≡ m * 2 ^ 32 + (k + 2) → (2 ≤ w) × (k + 2 ≡ w % 2 ^ 32) × (w / 2 ^ 32 ≡ m)
word_parts m k w few is = (omega (arith, is), omega (arith, few, is), omega (arith, few, is))
